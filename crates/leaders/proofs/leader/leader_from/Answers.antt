-- `leaders::leader::leader_from` meets its contract.
use Rattle.std.proofs.Common.{◌≡◌, ◌<◌, length, rules, arith}
use Rattle.std.proofs.lemmas.Bool.Decides.{nat_tests}
use Rattle.leaders.proofs.LeaderLaws.{leads_itself, leader_read}
use Rattle.leaders.proofs.leader.leader_from.Goals as goal

pub returns-then-is_empty : goal.returns-then-is_empty
returns-then-is_empty c =
    let e : length c.args.frame.now ≡ 0 = search rules in
    leads_itself c.args.frame.now _ e

pub returns-else-is_empty : goal.returns-else-is_empty
returns-else-is_empty c =
    let h : 0 < length c.args.frame.now = grind (arith, nat_tests) in
    leader_read c.args.frame.now _ _ (λ e. omega arith) c.short_at.ensures
