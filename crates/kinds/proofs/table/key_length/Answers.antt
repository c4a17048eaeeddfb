-- `kinds::table::key_length` meets its contract.
use Rattle.kinds.specs.Kinds.{kinds, kind_at}
use Rattle.kinds.proofs.KindLaws.{keyless}
use Rattle.kinds.proofs.table.key_length.Goals as goal

pub returns-in-16 : goal.returns-in-16
unfolding kind_at kinds
returns-in-16 c = rw c.in-16.is

pub returns-in-17 : goal.returns-in-17
unfolding kind_at kinds
returns-in-17 c = rw c.in-17.is

pub returns-in-18 : goal.returns-in-18
unfolding kind_at kinds
returns-in-18 c = rw c.in-18.is

pub returns-in-19 : goal.returns-in-19
unfolding kind_at kinds
returns-in-19 c = rw c.in-19.is

pub returns-in-20 : goal.returns-in-20
unfolding kind_at kinds
returns-in-20 c = rw c.in-20.is

pub returns-in-32 : goal.returns-in-32
unfolding kind_at kinds
returns-in-32 c = rw c.in-32.is

pub returns-in-33 : goal.returns-in-33
unfolding kind_at kinds
returns-in-33 c = rw c.in-33.is

pub returns-in-34 : goal.returns-in-34
unfolding kind_at kinds
returns-in-34 c = rw c.in-34.is

pub returns-in-35 : goal.returns-in-35
unfolding kind_at kinds
returns-in-35 c = rw c.in-35.is

pub returns-in-36 : goal.returns-in-36
unfolding kind_at kinds
returns-in-36 c = rw c.in-36.is

pub returns-in-48 : goal.returns-in-48
unfolding kind_at kinds
returns-in-48 c = rw c.in-48.is

pub returns-in-49 : goal.returns-in-49
unfolding kind_at kinds
returns-in-49 c = rw c.in-49.is

pub returns-in-50 : goal.returns-in-50
unfolding kind_at kinds
returns-in-50 c = rw c.in-50.is

pub returns-in-51 : goal.returns-in-51
unfolding kind_at kinds
returns-in-51 c = rw c.in-51.is

pub returns-in-52 : goal.returns-in-52
unfolding kind_at kinds
returns-in-52 c = rw c.in-52.is

pub returns-in_default : goal.returns-in_default
returns-in_default c = keyless _ c.in_default.in_default-own.rest
