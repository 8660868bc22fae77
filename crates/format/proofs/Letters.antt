-- From the report's trees back to folds. In the tree of a fold steps are leaves and groups are not. So it is in every tree of the
-- report that expands to the tree of a run, and each such tree is the tree of a fold.
use mathlib.Core.Path.{◌≡◌, refl, sym, ap, ap₂}
use Prim.Native.Nat.{zero, suc, ◌<◌}
use native.Mathlib.Omega.{arith}
use Rattle.format.specs.Forest.{Forest, end, step, group, repeat, siblings}
use Rattle.format.specs.Report.{RRT, empty, letter, repetition, count, Valid, append, series}
use Rattle.format.specs.Meaning.{Letter, step_of, group_of, report}
use Rattle.format.proofs.Expansion.{expand}

-- Steps are leaves, and groups are not.
abbrev pub Lettered : RRT Letter → Type 0
Lettered empty = Unit
Lettered (letter (step_of l) c r) = (c ≡ empty) × Lettered r
Lettered (letter (group_of l) c r) = (0 < count c) × Lettered c × Lettered r
Lettered (repetition h c r) = Lettered c × Lettered r

-- The fold of a tree: a step's letter becomes a step, without children, and a group's letter a group.
unfoldable pub fold_of : RRT Letter → Forest
fold_of empty = end
fold_of (letter (step_of l) c r) = step l (fold_of r)
fold_of (letter (group_of l) c r) = group l (fold_of c) (fold_of r)
fold_of (repetition h c r) = repeat h (siblings (fold_of c)) (fold_of c) (fold_of r)

pub report_fold_of : (r : RRT Letter) → Lettered r → report (fold_of r) ≡ r
unfolding report fold_of
report_fold_of empty z = refl
report_fold_of (letter (step_of l) c r) z = ap₂ (letter (step_of l)) (sym z.0) (report_fold_of r z.1)
report_fold_of (letter (group_of l) c r) z = ap₂ (letter (group_of l)) (report_fold_of c z.1) (report_fold_of r z.2)
report_fold_of (repetition h c r) z = ap₂ (repetition h) (report_fold_of c z.0) (report_fold_of r z.1)

-- Nothing is expanded away.
some_after : (c r : RRT Letter) → 0 < count c → 0 < count (append c r)
unfolding append count
some_after empty r p = absurd (omega arith)
some_after (letter a c d) r p = omega arith
some_after (repetition h c d) r p = omega arith

some_expanded : (c : RRT Letter) → Valid c → 0 < count c → 0 < count (expand c)
unfolding expand count series
some_expanded empty v p = p
some_expanded (letter a c r) v p = omega arith
some_expanded (repetition zero c r) v p = absurd (omega (arith, v.0))
some_expanded (repetition (suc h) c r) v p =
    some_after (append (expand c) (series h (expand c))) (expand r) (some_after (expand c) _ (some_expanded c v.2 v.1))

none_expanded : (c : RRT Letter) → Valid c → expand c ≡ empty → c ≡ empty
unfolding count
none_expanded empty v e = refl
none_expanded (letter a c r) v e = absurd (omega (arith, some_expanded (letter a c r) v (omega arith), ap count e))
none_expanded (repetition h c r) v e = absurd (omega (arith, some_expanded (repetition h c r) v (omega arith), ap count e))

-- What is expanded to steps as leaves and groups with children was such a tree.
lettered_parts : (c r : RRT Letter) → Lettered (append c r) → Lettered c × Lettered r
unfolding append
lettered_parts empty r z = (tt, z)
lettered_parts (letter (step_of l) c d) r z = let k = lettered_parts d r z.1 in ((z.0, k.0), k.1)
lettered_parts (letter (group_of l) c d) r z = let k = lettered_parts d r z.2 in ((z.0, z.1, k.0), k.1)
lettered_parts (repetition h c d) r z = let k = lettered_parts d r z.1 in ((z.0, k.0), k.1)

some_before : (c : RRT Letter) → 0 < count (expand c) → 0 < count c
unfolding expand count
some_before empty p = p
some_before (letter a c r) p = omega arith
some_before (repetition h c r) p = omega arith

pub lettered_expand : (r : RRT Letter) → Valid r → Lettered (expand r) → Lettered r
unfolding expand series
lettered_expand empty v z = tt
lettered_expand (letter (step_of l) c r) v z = (none_expanded c v.0 z.0, lettered_expand r v.1 z.1)
lettered_expand (letter (group_of l) c r) v z =
    (some_before c z.0, lettered_expand c v.0 z.1, lettered_expand r v.1 z.2)
lettered_expand (repetition zero c r) v z = absurd (omega (arith, v.0))
lettered_expand (repetition (suc h) c r) v z =
    let k = lettered_parts (append (expand c) (series h (expand c))) (expand r) z in
    let j = lettered_parts (expand c) (series h (expand c)) k.0 in
    (lettered_expand c v.2 j.0, lettered_expand r v.3 k.1)
