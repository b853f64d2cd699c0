-- `cones::cones_of` meets its contract. The loop's invariant: the cones and the counts are those of the wires passed.
use Rattle.std.proofs.Common.{◌<◌, refl, sym, ap, ◌∙◌, arith, length-set, length-take-le}
use Rattle.counts.specs.declared.Counts.{Counts}
use Rattle.counts.proofs.Laws.Counts.{counts_none, counts_room}
use Rattle.records.proofs.Laws.Fitting.{fit_of}
use Rattle.cones.proofs.Laws.Making.{item_inside, place_below, cones_more, counts_next}
use Rattle.cones.proofs.cones_of.Goals as goal

pub shared_ref_as_front-x-items : goal.shared_ref_as_front-x-items
shared_ref_as_front-x-items c = (fit_of _ _ c.requires).few

pub overflow_mul-shares : goal.overflow_mul-shares
overflow_mul-shares c = omega (arith, (fit_of _ _ c.requires).range.shares_few)

pub loop-w-init : goal.loop-w-init
loop-w-init c = record { room = refl; made = λ v l. absurd (omega arith); counted = c.none-counts.ensures ∙ sym (counts_none _) }

pub bit_if-share-requires : goal.bit_if-share-requires
bit_if-share-requires c = let f = (fit_of _ _ c.requires).range.shares_few in grind arith

pub bit_if-rand-requires : goal.bit_if-rand-requires
bit_if-rand-requires c = λ h. place_below _ _ c.requires c.loop-w.w (omega (arith, length-take-le _ _ (fit_of _ _ c.requires).long)) c.loop-w.counts.rands
    (ap (λ (k : Counts). k.rands) c.loop-w.invariant.counted) (sym c.eq.ensures ∙ h)

pub bounds-cones-from : goal.bounds-cones-from
bounds-cones-from c = let i = item_inside _ _ c.requires c.loop-w.w (omega (arith, length-take-le _ _ (fit_of _ _ c.requires).long)) in let e = c.from.ensures in omega arith

pub bounds-cones-from-in-loop-w : goal.bounds-cones-from-in-loop-w
bounds-cones-from-in-loop-w c = let i = item_inside _ _ c.requires c.loop-w.w (omega (arith, length-take-le _ _ (fit_of _ _ c.requires).long)) in let e = c.from-in-loop-w.ensures in omega arith

pub with-counts-requires : goal.with-counts-requires
with-counts-requires c = rw c.loop-w.invariant.counted (counts_room c.loop-w.w c.args.listing.wires
    (let f = (fit_of _ _ c.requires).few in let h : c.loop-w.w < c.args.listing.shape.n = (let t = c.loop-w-test.true in let l = length-take-le _ _ (fit_of _ _ c.requires).long in omega arith) in omega arith))

pub loop-w-preserved : goal.loop-w-preserved
loop-w-preserved c = let v = c.loop-w.invariant in let f = (fit_of _ _ c.requires).few in let h : c.loop-w.w < c.args.listing.shape.n = (let t = c.loop-w-test.true in let l = length-take-le _ _ (fit_of _ _ c.requires).long in omega arith) in record {
  room = simp length-set v.room;
  made = cones_more _ _ c.requires c.loop-w.w h c.loop-w.cones c.loop-w.counts.rands _ _ _ (let r = v.room in omega arith)
      (ap (λ (k : Counts). k.rands) v.counted) v.made c.bit_if-share.ensures (rw c.eq.ensures at c.bit_if-rand.ensures)
      (rw (c.from.ensures, c.from-in-loop-w.ensures) at c.cone_of.ensures);
  counted = c.with-counts.ensures ∙ counts_next _ _ c.requires c.loop-w.w h _ v.counted;
}
