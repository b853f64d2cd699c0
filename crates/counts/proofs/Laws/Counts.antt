-- Laws of the counts: record by record, and over the records as they lie in the list.
use Rattle.std.specs.Prelude.{◌≡◌, refl, List, ℕ, ◌+◌, ◌≤◌, ◌<◌, length, take}
use Rattle.std.proofs.Common.{ap, add-one, arith, get_or-take, length-take-le}
use Rattle.data.specs.Basics.{tally}
use Rattle.document.specs.Routine.{wire, blank, is_rand, is_pub, rands_before, pubs_before, routine_of}
use Rattle.data.proofs.Laws.Tests.{tally_ext, tally_max}
use Rattle.data.specs.declared.Wire.{Wire}
use Rattle.data.specs.declared.Shape.{Shape}
use Rattle.counts.specs.Counting.{record_at, counts_of, with_record, Room}

-- ---- the counts, record by record

pub counts_none : (ws : List Wire) → counts_of 0 ws ≡ record { rands = 0; pubs = 0; outs = 0 }
unfolding counts_of tally
counts_none ws = refl

pub counts_more : (i : ℕ) (ws : List Wire) → counts_of (i + 1) ws ≡ with_record (counts_of i ws) (record_at ws i)
unfolding counts_of tally
counts_more i ws = simp add-one

pub counts_room : (i : ℕ) (ws : List Wire) → i < 128 → Room (counts_of i ws)
unfolding counts_of
counts_room i ws h =
    let r = tally_max i (λ u. is_rand (record_at ws u).kind) in
    let p = tally_max i (λ u. is_pub (record_at ws u).kind) in
    let o = tally_max i (λ u. (record_at ws u).out) in
    record { rands_room = omega arith; pubs_room = omega arith; outs_room = omega arith }

-- ---- the first n records of a list, and the list

pub wire_is : (σ : Shape) (ws : List Wire) (w : ℕ) → w < σ.n → wire (routine_of σ ws) w ≡ record_at ws w
wire_is σ ws w h = get_or-take σ.n ws w blank h

pub rands_is : (σ : Shape) (ws : List Wire) (i : ℕ) → i ≤ σ.n → rands_before (routine_of σ ws) i ≡ (counts_of i ws).rands
unfolding rands_before counts_of
rands_is σ ws i h = tally_ext i _ _ (λ u l. ap (λ (x : Wire). is_rand x.kind) (wire_is σ ws u (omega arith)))

pub pubs_is : (σ : Shape) (ws : List Wire) (i : ℕ) → i ≤ σ.n → pubs_before (routine_of σ ws) i ≡ (counts_of i ws).pubs
unfolding pubs_before counts_of
pubs_is σ ws i h = tally_ext i _ _ (λ u l. ap (λ (x : Wire). is_pub x.kind) (wire_is σ ws u (omega arith)))

pub outs_is : (σ : Shape) (ws : List Wire) → tally σ.n (λ u. (wire (routine_of σ ws) u).out) ≡ (counts_of σ.n ws).outs
unfolding counts_of
outs_is σ ws = tally_ext σ.n _ _ (λ u l. ap (λ (x : Wire). x.out) (wire_is σ ws u l))

-- the counts look at the first n records alone
pub counts_first : (n : ℕ) (ws : List Wire) → n ≤ length ws → counts_of (length (take n ws)) (take n ws) ≡ counts_of n ws
unfolding counts_of
counts_first n ws h =
    let z = length-take-le n ws h in
    let first : (u : ℕ) → u < n → record_at (take n ws) u ≡ record_at ws u = λ u l. get_or-take n ws u blank l in
    rw (
      z,
      tally_ext n (λ u. is_rand (record_at (take n ws) u).kind) (λ u. is_rand (record_at ws u).kind) (λ u l. ap (λ (x : Wire). is_rand x.kind) (first u l)),
      tally_ext n (λ u. is_pub (record_at (take n ws) u).kind) (λ u. is_pub (record_at ws u).kind) (λ u l. ap (λ (x : Wire). is_pub x.kind) (first u l)),
      tally_ext n (λ u. (record_at (take n ws) u).out) (λ u. (record_at ws u).out) (λ u l. ap (λ (x : Wire). x.out) (first u l)),
    )
