-- The test of refusal 11 in the order of the records: the test of one record, and what the whole test says.
use Rattle.std.specs.Prelude.{◌≡◌, Bool, true, List, [], ℕ, ◌*◌, ◌≤◌, ◌<◌, length, take}
use Rattle.document.specs.Routine.{fits, routine_of}
use Rattle.data.specs.declared.Wire.{Wire}
use Rattle.data.specs.declared.Shape.{Shape}
use Rattle.counts.specs.Counting.{record_at, counts_of}

-- 1.12: S and D are in their ranges, and so S-as-D is between 2 and 64
pub record Ranged (s d : ℕ) : Type 0 where
  pub s_low : 1 ≤ s
  pub s_high : s ≤ 8
  pub d_low : 2 ≤ d
  pub d_high : d ≤ 8
  pub shares_few : s * d ≤ 64
  pub shares_some : 2 ≤ s * d

-- the test of one record, which looks at S and D and at no other record
unfoldable pub fits_at : ℕ → ℕ → ℕ → Wire → Bool
fits_at s d w x = fits (routine_of (record { s = s; d = d; n = 0 }) []) w x.kind x.a x.b

-- S, D, n and the first n records are what a read could have given
pub record Fit (σ : Shape) (ws : List Wire) : Type 0 where
  pub range : Ranged σ.s σ.d
  pub long : σ.n ≤ length ws
  pub few : σ.n ≤ 128
  pub sized : length (take σ.n ws) ≡ σ.n
  pub shares_in : σ.s * σ.d ≤ σ.n
  pub rands_few : (counts_of σ.n ws).rands ≤ 64
  pub pubs_few : (counts_of σ.n ws).pubs ≤ 16
  pub outs_few : (counts_of σ.n ws).outs ≤ 64
  pub fitting : (w : ℕ) → w < σ.n → fits_at σ.s σ.d w (record_at ws w) ≡ true
