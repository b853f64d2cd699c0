-- The values, wire by wire.
use Rattle.std.specs.Prelude.{◌≡◌, List, [], ◌∷◌, ◌++◌, length, get_or, take, drop, set}
use Rattle.std.proofs.Math.Path.{refl}
use Rattle.std.proofs.Common.{sym, ap, ◌∙◌, append_assoc, add-one, arith, drop-cons, le_refl, take_at, take-take, length-take-le}
use Prim.Native.Nat.{ℕ, zero, suc, ◌+◌, ◌≤◌, ◌<◌}
use Rattle.std.proofs.Math.ListN.{length-append}
use Rattle.std.proofs.lemmas.List.{set_at}
use Rattle.document.specs.Routine.{Routine, rands_before, pubs_before, routine_of}
use Rattle.document.specs.Running.{bit, value_at, first_values, running, bits, bit_values}
use Rattle.data.specs.declared.Shape.{Shape}
use Rattle.data.specs.declared.Wire.{Wire}
use Rattle.counts.specs.declared.Counts.{Counts}
use Rattle.counts.specs.Counting.{record_at, counts_of}
use Rattle.counts.proofs.Laws.Counts.{wire_is, rands_is, pubs_is}
use Rattle.runner.specs.Run.{value_from, values, unsized}

module _ (R : Routine) (xs ys zs : List ℕ) where
  length_values : (k : ℕ) → length (first_values bit R xs ys zs k) ≡ k
  unfolding first_values
  length_values zero = refl
  length_values (suc k) = simp length-append (let e = length_values k in omega arith)

-- the values do not depend on S and D
values_any : (σ : Shape) (ws : List Wire) (xs ys zs : List ℕ) (k : ℕ) →
    first_values bit (routine_of σ ws) xs ys zs k ≡ first_values bit (routine_of (unsized σ.n) ws) xs ys zs k
unfolding first_values value_at rands_before pubs_before
values_any σ ws xs ys zs zero = refl
values_any σ ws xs ys zs (suc k) = rw (values_any σ ws xs ys zs k)

module _ (n : ℕ) (ws : List Wire) (shares randoms publics : ℕ) where
  -- the values of the first k wires
  abbrev vs : ℕ → List ℕ
  vs k = values n ws shares randoms publics k

  -- the bits that the code takes for wire k, and the value that it makes of them
  abbrev code_value : ℕ → List ℕ → ℕ
  code_value k b =
      let c = counts_of k ws in
      value_from b k (record_at ws k) (get_or (bits 64 shares) k 0) (get_or (bits 64 randoms) c.rands 0) (get_or (bits 64 publics) c.pubs 0)

  pub values_none : vs 0 ≡ []
  unfolding values first_values
  values_none = refl

  values_length : (k : ℕ) → length (vs k) ≡ k
  unfolding values
  values_length = length_values (routine_of (unsized n) ws) (bits 64 shares) (bits 64 randoms) (bits 64 publics)

  next : ℕ → ℕ
  next k = value_at bit (routine_of (unsized n) ws) (bits 64 shares) (bits 64 randoms) (bits 64 publics) (λ w. get_or (vs k) w 0) k

  values_suc : (k : ℕ) → vs (suc k) ≡ vs k ++ (next k ∷ [])
  unfolding values first_values next
  values_suc k = refl

  -- the value of wire k, as the code takes it from the buffer and the counts so far
  next_is : (k : ℕ) (b : List ℕ) → k < n → take k b ≡ vs k → code_value k b ≡ next k
  unfolding next value_at
  next_is k b h e = rw (e, wire_is (unsized n) ws k h, rands_is (unsized n) ws k (omega arith), pubs_is (unsized n) ws k (omega arith))

  -- one value more
  pub values_more : (k : ℕ) (b b₀ : List ℕ) → k < n → k < length b₀ → b ≡ vs k ++ drop k b₀
      → set b k (code_value k b) ≡ vs (k + 1) ++ drop (k + 1) b₀
  values_more k b b₀ h l e =
      ap (λ (v : ℕ). set b k v) (next_is k b h (ap (take k) e ∙ take_at (vs k) (drop k b₀) k (values_length k)))
      ∙ ap (λ (t : List ℕ). set t k (next k)) (e ∙ ap (λ (t : List ℕ). vs k ++ t) (drop-cons b₀ k 0 l))
      ∙ set_at (vs k) (get_or b₀ k 0) (drop (suc k) b₀) (next k) k (values_length k)
      ∙ sym (rw (add-one, values_suc, append_assoc))

  -- the same of one turn of the code, with the counts that it has
  pub values_turn : (k : ℕ) (b b₀ b₁ : List ℕ) (c : Counts) → k < n → k < length b₀ → b ≡ vs k ++ drop k b₀ → c ≡ counts_of k ws
      → b₁ ≡ set b k (value_from b k (record_at ws k) (get_or (bits 64 shares) k 0) (get_or (bits 64 randoms) c.rands 0) (get_or (bits 64 publics) c.pubs 0))
      → b₁ ≡ vs (k + 1) ++ drop (k + 1) b₀
  values_turn k b b₀ b₁ c h l e counted t = t ∙ rw counted (values_more k b b₀ h l e)

-- the values of the first n records are those of a list of just these
pub values_first : (n : ℕ) (ws : List Wire) (shares randoms publics : ℕ) (b : List ℕ) → n ≤ length ws
    → values (length (take n ws)) (take n ws) shares randoms publics (length (take n ws)) ++ drop (length (take n ws)) b
    ≡ values n ws shares randoms publics n ++ drop n b
unfolding values
values_first n ws shares randoms publics b h = rw (length-take-le n ws h, take-take n n ws (le_refl n))

-- all values
pub values_all : (σ : Shape) (ws : List Wire) (shares randoms publics : ℕ) → σ.n ≤ length ws →
    values σ.n ws shares randoms publics σ.n ≡ bit_values (routine_of σ ws) shares randoms publics
unfolding values bit_values running
values_all σ ws shares randoms publics h =
    rw (length-take-le σ.n ws h) (sym (values_any σ ws (bits 64 shares) (bits 64 randoms) (bits 64 publics) σ.n))
