-- `kinds::table::later_row` meets its contract.
use Rattle.kinds.specs.Kinds.{kinds, kind_at}
use Rattle.kinds.proofs.KindLaws.{later_other}
use Rattle.kinds.proofs.table.later_row.Goals as goal

pub returns-in-48 : goal.returns-in-48
unfolding kind_at kinds
returns-in-48 c = rw c.in-48.is

pub returns-in-49 : goal.returns-in-49
unfolding kind_at kinds
returns-in-49 c = rw c.in-49.is

pub returns-in-50 : goal.returns-in-50
unfolding kind_at kinds
returns-in-50 c = rw c.in-50.is

pub returns-in-51 : goal.returns-in-51
unfolding kind_at kinds
returns-in-51 c = rw c.in-51.is

pub returns-in-52 : goal.returns-in-52
unfolding kind_at kinds
returns-in-52 c = rw c.in-52.is

pub returns-in-63 : goal.returns-in-63
unfolding kind_at kinds
returns-in-63 c = rw c.in-63.is

pub returns-in-64 : goal.returns-in-64
unfolding kind_at kinds
returns-in-64 c = rw c.in-64.is

pub returns-in-65 : goal.returns-in-65
unfolding kind_at kinds
returns-in-65 c = rw c.in-65.is

pub returns-in-66 : goal.returns-in-66
unfolding kind_at kinds
returns-in-66 c = rw c.in-66.is

pub returns-in-67 : goal.returns-in-67
unfolding kind_at kinds
returns-in-67 c = rw c.in-67.is

pub returns-in-68 : goal.returns-in-68
unfolding kind_at kinds
returns-in-68 c = rw c.in-68.is

pub returns-in-69 : goal.returns-in-69
unfolding kind_at kinds
returns-in-69 c = rw c.in-69.is

pub returns-in-70 : goal.returns-in-70
unfolding kind_at kinds
returns-in-70 c = rw c.in-70.is

pub returns-in-71 : goal.returns-in-71
unfolding kind_at kinds
returns-in-71 c = rw c.in-71.is

pub returns-in-72 : goal.returns-in-72
unfolding kind_at kinds
returns-in-72 c = rw c.in-72.is

pub returns-in-73 : goal.returns-in-73
unfolding kind_at kinds
returns-in-73 c = rw c.in-73.is

pub returns-in-74 : goal.returns-in-74
unfolding kind_at kinds
returns-in-74 c = rw c.in-74.is

pub returns-in-75 : goal.returns-in-75
unfolding kind_at kinds
returns-in-75 c = rw c.in-75.is

pub returns-in-76 : goal.returns-in-76
unfolding kind_at kinds
returns-in-76 c = rw c.in-76.is

pub returns-in_default : goal.returns-in_default
returns-in_default c = later_other _ c.requires c.in_default.in_default-own.rest
