-- `searching::grow` meets its contract: wires passed over are judged sets that are not open.
use Rattle.std.proofs.Common.{◌-◌, sym, ◌∙◌, arith}
use Rattle.std.proofs.lemmas.Result.{err_from_is_err_and}
use native.Mathlib.Nat.{pos_of_ne-zero}
use Rattle.data.specs.ProbeSets.{held}
use Rattle.growing.specs.Growing.{opens_in}
use Rattle.searching.proofs.Laws.Skipping.{reached, turn_end, turn_more, turn_hit, turn_rest, turn_miss}
use Rattle.searching.proofs.Laws.Turns.{falls_both, falls_wires, grow_leaf, few_wires, leaf_asked, leaf_counted}
use Rattle.searching.proofs.+grow.Goals as goal

pub judge_set-requires : goal.judge_set-requires
judge_set-requires t c = (leaf_asked c.requires c.if-places-eq0.true, leaf_counted c.requires c.if-places-eq0.true)

pub returns-then-places-eq0 : goal.returns-then-places-eq0
returns-then-places-eq0 t c = let a = c.args in c.judge_set.ensures
    ∙ sym (grow_leaf (opens_in a.q) a.places (a.q.listing.now.shape.n - a.from) a.from (held a.g.set) a.count c.if-places-eq0.true)

pub overflow_add-passed : goal.overflow_add-passed
overflow_add-passed t c = let z = (reached c.requires c.next_wire-at.ensures).counted in omega arith

pub returns-then-n-at : goal.returns-then-n-at
returns-then-n-at t c = turn_end c.requires c.next_wire-at.ensures (pos_of_ne-zero c.if-places-eq0.false) c.if-n-at.true

pub with-more-requires : goal.with-more-requires
with-more-requires t c = let S = c.requires in (
  let r = S.room in let h = c.if-places-eq0.false in
      omega arith,
  omega (arith, few_wires S, c.if-n-at.false),
  S.grows.whole,
)

pub grow-requires : goal.grow-requires
grow-requires t c =
    let w = c.next_wire-at in
    let h = pos_of_ne-zero c.if-places-eq0.false in
    let l = c.if-n-at.false in
    (falls_both _ _ _ _ _ c.decreases h w.ensures.since l, turn_more c.requires w.ensures h l _ c.with-more.ensures)

pub returns-in_err-judged : goal.returns-in_err-judged
returns-in_err-judged t c =
    let w = c.next_wire-at in
    let h = pos_of_ne-zero c.if-places-eq0.false in
    let l = c.if-n-at.false in
    let p = err_from_is_err_and c.from_residual.result c.from_residual.ensures.1 in
    rw (p.1, p.2) (turn_hit c.requires w.ensures h l _ c.with-more.ensures _ c.grow.ensures _ c.in_err-judged.was)

pub grow-requires-2 : goal.grow-requires-2
grow-requires-2 t c =
    let w = c.next_wire-at in
    let h = pos_of_ne-zero c.if-places-eq0.false in
    let l = c.if-n-at.false in (
      falls_wires _ _ _ _ _ c.decreases h w.ensures.since l,
      turn_rest c.requires w.ensures h l _ c.with-more.ensures _ c.grow.ensures _ c.in_ok-judged.was,
    )

pub returns : goal.returns
returns t c =
    let w = c.next_wire-at in
    let h = pos_of_ne-zero c.if-places-eq0.false in
    let l = c.if-n-at.false in
    turn_miss c.requires w.ensures h l _ c.with-more.ensures _ c.grow.ensures _ c.in_ok-judged.was _ c.grow-2.ensures
