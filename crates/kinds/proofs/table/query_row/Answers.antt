-- `kinds::table::query_row` meets its contract.
use Rattle.kinds.specs.Kinds.{kinds, kind_at}
use Rattle.kinds.proofs.KindLaws.{query_other}
use Rattle.kinds.proofs.table.query_row.Goals as goal

pub returns-in-0 : goal.returns-in-0
unfolding kind_at kinds
returns-in-0 c = rw c.in-0.is

pub returns-in-1 : goal.returns-in-1
unfolding kind_at kinds
returns-in-1 c = rw c.in-1.is

pub returns-in-2 : goal.returns-in-2
unfolding kind_at kinds
returns-in-2 c = rw c.in-2.is

pub returns-in-3 : goal.returns-in-3
unfolding kind_at kinds
returns-in-3 c = rw c.in-3.is

pub returns-in-4 : goal.returns-in-4
unfolding kind_at kinds
returns-in-4 c = rw c.in-4.is

pub returns-in-5 : goal.returns-in-5
unfolding kind_at kinds
returns-in-5 c = rw c.in-5.is

pub returns-in-6 : goal.returns-in-6
unfolding kind_at kinds
returns-in-6 c = rw c.in-6.is

pub returns-in-7 : goal.returns-in-7
unfolding kind_at kinds
returns-in-7 c = rw c.in-7.is

pub returns-in-8 : goal.returns-in-8
unfolding kind_at kinds
returns-in-8 c = rw c.in-8.is

pub returns-in-9 : goal.returns-in-9
unfolding kind_at kinds
returns-in-9 c = rw c.in-9.is

pub returns-in-10 : goal.returns-in-10
unfolding kind_at kinds
returns-in-10 c = rw c.in-10.is

pub returns-in-11 : goal.returns-in-11
unfolding kind_at kinds
returns-in-11 c = rw c.in-11.is

pub returns-in-12 : goal.returns-in-12
unfolding kind_at kinds
returns-in-12 c = rw c.in-12.is

pub returns-in-13 : goal.returns-in-13
unfolding kind_at kinds
returns-in-13 c = rw c.in-13.is

pub returns-in-14 : goal.returns-in-14
unfolding kind_at kinds
returns-in-14 c = rw c.in-14.is

pub returns-in-16 : goal.returns-in-16
unfolding kind_at kinds
returns-in-16 c = rw c.in-16.is

pub returns-in-17 : goal.returns-in-17
unfolding kind_at kinds
returns-in-17 c = rw c.in-17.is

pub returns-in-18 : goal.returns-in-18
unfolding kind_at kinds
returns-in-18 c = rw c.in-18.is

pub returns-in-19 : goal.returns-in-19
unfolding kind_at kinds
returns-in-19 c = rw c.in-19.is

pub returns-in-20 : goal.returns-in-20
unfolding kind_at kinds
returns-in-20 c = rw c.in-20.is

pub returns-in-32 : goal.returns-in-32
unfolding kind_at kinds
returns-in-32 c = rw c.in-32.is

pub returns-in-33 : goal.returns-in-33
unfolding kind_at kinds
returns-in-33 c = rw c.in-33.is

pub returns-in-34 : goal.returns-in-34
unfolding kind_at kinds
returns-in-34 c = rw c.in-34.is

pub returns-in-35 : goal.returns-in-35
unfolding kind_at kinds
returns-in-35 c = rw c.in-35.is

pub returns-in-36 : goal.returns-in-36
unfolding kind_at kinds
returns-in-36 c = rw c.in-36.is

pub returns-in_default : goal.returns-in_default
returns-in_default c = query_other _ c.requires c.in_default.in_default-own.rest
