-- What a wire is made of.
use Rattle.std.specs.Prelude.{◌≡◌, ◌<◌, ℕ}
use Rattle.data.specs.declared.Kind.{Kind}
use Rattle.data.specs.declared.Kind.TheVariants as K

-- what a line can make wire w: no share, with earlier operands, and 0 for those it has not
abbrev pub Made : ℕ → Kind → ℕ → ℕ → Type 0
Made w K.Share a b = ⊥
Made w K.Rand a b = (a ≡ 0) × (b ≡ 0)
Made w K.Pub a b = (a ≡ 0) × (b ≡ 0)
Made w K.Xor a b = (a < w) × (b < w)
Made w K.And a b = (a < w) × (b < w)
Made w K.Not a b = (a < w) × (b ≡ 0)
