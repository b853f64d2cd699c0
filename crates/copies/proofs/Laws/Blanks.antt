-- How many blank records there are.
use Rattle.std.specs.Prelude.{◌≡◌, refl, length}
use Rattle.document.specs.Reading.{blanks}

pub length_blanks : length blanks ≡ 128
unfolding blanks
length_blanks = refl
