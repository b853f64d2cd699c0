-- `searching::search_sizes` meets its contract. The loop's invariant: nothing is open among the sets of the sizes passed.
use Rattle.std.proofs.Common.{◌+◌, sym, ◌∙◌, arith}
use Rattle.std.proofs.lemmas.Result.{err_from_is_err_and}
use Rattle.searching.proofs.Laws.Sizes.{found_none, found_stays, size_asked, size_found}
use Rattle.searching.proofs.search_sizes.Goals as goal

pub loop-size-init : goal.loop-size-init
loop-size-init c = found_none _ _

pub grow-requires : goal.grow-requires
grow-requires c = let l = c.loop-size in
    size_asked c.args.q l.size l.count l.invariant _ c.nothing.ensures (let h = c.loop-size-test.true in omega (arith, c.requires))

pub returns-in_err-count : goal.returns-in_err-count
returns-in_err-count c = let l = c.loop-size in
    let e = size_found c.args.q l.size l.count l.invariant _ c.nothing.ensures _ c.grow.ensures in
    let h = c.loop-size-test.true in
    let p = err_from_is_err_and c.from_residual.result c.from_residual.ensures.1 in
    rw (p.1, p.2) (found_stays _ (l.size + 1) c.args.q.listing.now.shape.n c.args.top _ (omega arith) (sym c.in_err-count.was ∙ e))

pub loop-size-preserved : goal.loop-size-preserved
loop-size-preserved c = let l = c.loop-size in
    sym c.in_ok-count.was ∙ size_found c.args.q l.size l.count l.invariant _ c.nothing.ensures _ c.grow.ensures
