-- The record of a wire, the counts over the first records, and their ceilings.
use Rattle.std.specs.Prelude.{Bool, ◌&&◌, List, ℕ, ◌+◌, ◌<◌, leb, get_or}
use Rattle.data.specs.Basics.{one, tally}
use Rattle.document.specs.Routine.{blank, is_rand, is_pub}
use Rattle.data.specs.declared.Wire.{Wire}
use Rattle.counts.specs.declared.Counts.{Counts}

-- the record of wire w
abbrev pub record_at : List Wire → ℕ → Wire
record_at ws w = get_or ws w blank

-- the randoms, publics and outputs among the first m records
unfoldable pub counts_of : ℕ → List Wire → Counts
counts_of m ws =
    record {
      rands = tally m (λ u. is_rand (record_at ws u).kind);
      pubs = tally m (λ u. is_pub (record_at ws u).kind);
      outs = tally m (λ u. (record_at ws u).out);
    }

-- the counts with one record more
abbrev pub with_record : Counts → Wire → Counts
with_record c x = record { rands = one (is_rand x.kind) + c.rands; pubs = one (is_pub x.kind) + c.pubs; outs = one x.out + c.outs }

-- counts that have room for one more
pub record Room (c : Counts) : Type 0 where
  pub rands_room : c.rands < 128
  pub pubs_room : c.pubs < 128
  pub outs_room : c.outs < 128

-- 1.23, 1.31: no ceiling is passed by the randoms, the publics and the outputs
unfoldable pub ceilings_met : Counts → Bool
ceilings_met c = leb c.rands 64 && leb c.pubs 16 && leb c.outs 64
