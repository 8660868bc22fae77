-- Short folds beside the cheapest fold: nobody undercuts it with one, and no other one ties with it but the short form of a fold
-- that comes later. So shortness decides nothing.
use mathlib.Core.Path.{◌≡◌, sym, ap, ◌∙◌}
use mathlib.Core.Bool.{true, false}
use mathlib.Core.List.{List}
use Prim.Native.Nat.{ℕ, ◌≤◌}
use Rattle.format.specs.Order.{Bytes}
use Rattle.format.specs.Forest.{widest_of}
use Rattle.format.specs.Machine.{Rules}
use Rattle.format.specs.Readings.{in_family}
use Rattle.format.specs.Family.{short_form, long_form}
use Rattle.format.proofs.Family.{converted_bytes, converted_tree, long_form_read, short_of_long}
use Rattle.optimum.specs.Demands.{FoldWithin, CheapestWithin}
use Rattle.optimum.specs.Fewest.{ComesFirst}

module _ (run : List ℕ) (limit : ℕ) (R : Rules) (g : List ℕ) (c : ℕ) (small : Bytes g) (z : FoldWithin run limit (in_family true R) g c) where
  -- The long form of a short fold of the run is a fold of it, within the same limit and at the same cost.
  pub lengthened : FoldWithin run limit (in_family false R) (long_form g) c
  lengthened =
      let a = z.formed in
      let wide = ap widest_of (converted_tree (in_family true R) g small a.tally a.text a.reading false) in
      record {
        formed = record { tally = a.tally; text = a.text; reading = long_form_read R g small a ∙ a.reading };
        unrolls = z.unrolls;
        within = rw wide z.within;
        costs = z.costs;
      }

  long_bytes : Bytes (long_form g)
  long_bytes = let a = z.formed in converted_bytes (in_family true R) g small a.tally a.text a.reading false

  module _ (f : List ℕ) (cost : ℕ) (best : CheapestWithin run limit (in_family false R) f cost) where
    -- NO SHORT FOLD OF THE RUN WITHIN THE LIMIT IS CHEAPER.
    pub short_no_cheaper : cost ≤ c
    short_no_cheaper = best.no_cheaper (long_form g) c long_bytes lengthened

    -- EVERY OTHER ONE OF THAT COST IS THE SHORT FORM OF A FOLD THAT COMES LATER.
    pub short_first : c ≡ cost → (g ≡ short_form f → ⊥) → ComesFirst f (long_form g)
    short_first e other =
        best.first (long_form g) c long_bytes lengthened e (λ same. other (sym (short_of_long R g small z.formed) ∙ ap short_form same))
