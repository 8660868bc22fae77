-- The known folds hold of the definitions, by computation.
use mathlib.Core.Path.{refl}
use Rattle.optimum.specs.Known.{Known, known, answered, expected}

pub known_hold : Known
unfolding known answered expected
known_hold = refl
