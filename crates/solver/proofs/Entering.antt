-- A solved row as it is entered: its keys of up to the extent, and the key of the stretch up to the end.
use mathlib.Core.Path.{◌≡◌, refl, ◌∙◌}
use mathlib.Core.List.{List}
use Prim.Native.Nat.{ℕ, ◌+◌, ◌-◌, ◌<◌, ◌≤◌}
use native.Mathlib.Decide.{ℕ_discrete}
use native.Mathlib.Omega.{arith}
use lib.ListN.{length, get_or, set, length-set}
use lib.Seq.{get_or-set_same, get_or-set_other}
use Rattle.optimum.specs.Cheapest.{back, best_cost}
use Rattle.optimum.proofs.Cut.{front_whole, run_back, siblings_back}
use Rattle.table.specs.Keys.{key, cost_digit, choice_digits, rest_digits, stored_key}
use Rattle.table.specs.Table.{BestKey, Entry, Falling, Stored, stretch, cell, entry_at}
use Rattle.table.proofs.Cells.{cell_same}
use Rattle.table.proofs.Tables.{falling_cell}
use Rattle.solver.specs.declared.row.Row.{Row}
use Rattle.solver.specs.Rows.{RowReady, RowHeld, Rowed, RowEntered, Advanced, Started}
use Rattle.solver.specs.Ends.{Ending}
use Rattle.solver.proofs.Stretches.{best_entry, best_combined, best_low}
use Rattle.solver.proofs.Solving.{modest, inside, started_rowed, solved, solved_entry}
use Rattle.solver.proofs.Lasts.{end_best}

-- The row's entries and then that of the stretch of n siblings: each has its own place.
module _ (numbers : List ℕ) (i n k x : ℕ) (value : ℕ → ℕ) (before between : List ℕ) (fall : Falling numbers (i + n) (length before)) (some : 0 < n) (less : k ≤ n)
    (s : Stored numbers i k value before between) where
  abbrev place : ℕ → ℕ
  place d = cell (get_or numbers (i + d) 0) (get_or numbers i 0)

  abbrev after : List ℕ
  after = set between (place n) x

  own_place : (d : ℕ) → 0 < d → d ≤ n → place d ≡ place n → d ≡ n
  own_place d p l e = elim (ℕ_discrete d n) [
    | yes q ↦ q
    | no q ↦
        let a = fall.fall i (i + d) (omega arith) (omega arith) in
        let b = fall.fall i (i + n) (omega arith) (omega arith) in
        absurd (omega (arith, fall.fall (i + d) (i + n) (omega arith) (omega arith), (cell_same _ _ _ _ a b e).0))
  ]

  pub ended_last : get_or after (place n) 0 ≡ x
  ended_last = get_or-set_same between (place n) x 0 (omega (arith, falling_cell _ _ _ fall i (i + n) (omega arith) (omega arith), s.same_length))

  pub ended_short : (d : ℕ) → 0 < d → d ≤ k → (d ≡ n → ⊥) → get_or after (place d) 0 ≡ value d
  ended_short d p l q =
      get_or-set_other between (place n) (place d) x 0 (λ e. q (own_place d p (omega arith) e)) ∙ s.entered d p l

  pub ended_kept : Stored numbers i n (λ d. get_or after (place d) 0) before after
  ended_kept =
      record {
        same_length = length-set between (place n) x ∙ s.same_length;
        entered = λ d p l. refl;
        others = λ y f. get_or-set_other between (place n) y x 0 (f n some (omega arith)) ∙ s.others y (λ d p l. f d p (omega arith));
      }

-- The row solved from its first keys on.
module _ {costs choices numbers : List ℕ} {row : Row} {prices same tails stops : List ℕ} {first keys : List ℕ} {last longest : ℕ}
    (s : Started costs choices numbers row first)
    (a : Advanced costs choices numbers row prices same tails stops row.extent first keys longest)
    (end : row.at + row.extent ≡ row.end → last ≡ get_or keys row.extent 0)
    (ending : row.at + row.extent < row.end → Ending row prices same tails keys row.extent last) where
  module _ (z : RowReady costs choices numbers row prices same tails stops) where
    rowed : Rowed z row.extent keys
    rowed = a.rowed z (started_rowed z first s)

    -- The key of the stretch up to the end, which is solved with the others or by itself.
    last_best : (n : ℕ) → 0 < n → row.at + n ≡ row.end → BestKey z.allowed z.prices_are (stretch z.tree row.at n) last
    last_best n p e = elim (ℕ_discrete n row.extent) [
      | yes q ↦ rw (end (omega arith), q) (solved z keys rowed row.extent (omega arith) (omega arith))
      | no q ↦ end_best z keys rowed n last e (omega (arith, inside z)) (ending (omega (arith, inside z)))
    ]

    last_entry : (n : ℕ) → 0 < n → row.at + n ≡ row.end
        → Entry z.allowed z.prices_are (stretch z.tree row.at n) (cost_digit last) (choice_digits last)
    last_entry n p e = best_entry (modest z) row.at n last (last_best n p e)

    pub last_low : last < stored_key
    last_low =
        let n = row.end - row.at in
        let some = z.some in
        best_low (modest z) row.at n last (last_best n (omega arith) (omega arith))

    tail_cost : (n : ℕ) → 0 < n → row.at + n ≡ row.end → rest_digits last ≡ key (best_cost z.allowed z.prices_are (back row.at z.tree)) 0
    tail_cost n p e =
        let size = siblings_back row.at z.tree z.run.plain (omega (arith, z.some, z.all)) in
        let whole = front_whole n (back row.at z.tree) (run_back row.at z.run).plain (omega (arith, z.all)) in
        rw (best_combined (modest z) row.at n last (last_best n p e), whole)

  module _ (held : RowHeld costs choices numbers row) (some : row.at < row.end) (within : row.at + row.extent ≤ row.end)
      {costs₁ choices₁ costs₂ choices₂ tails₂ stops₂ : List ℕ} {tail : ℕ}
      (sc : Stored numbers row.at row.extent (λ d. cost_digit (get_or keys d 0)) costs costs₁)
      (sk : Stored numbers row.at row.extent (λ d. choice_digits (get_or keys d 0)) choices choices₁)
      (ec : costs₂ ≡ set costs₁ (cell (get_or numbers row.end 0) (get_or numbers row.at 0)) (cost_digit last))
      (ek : choices₂ ≡ set choices₁ (cell (get_or numbers row.end 0) (get_or numbers row.at 0)) (choice_digits last))
      (tail_is : tail ≡ rest_digits last) (tails_are : tails₂ ≡ set tails row.at tail) (stops_are : stops₂ ≡ set stops row.at (row.at + longest)) where
    abbrev n : ℕ
    n = row.end - row.at

    whole_is : row.at + n ≡ row.end
    whole_is = omega arith

    falls : (room : ℕ) → Falling numbers row.end room → Falling numbers (row.at + n) room
    falls room f = rw whole_is f

    ended : {before between after : List ℕ} {value : ℕ → ℕ} (x : ℕ) → Falling numbers row.end (length before) → Stored numbers row.at row.extent value before between
        → after ≡ set between (cell (get_or numbers row.end 0) (get_or numbers row.at 0)) x
        → (entry_at after numbers row.at (row.at + n) ≡ x)
        × ((d : ℕ) → 0 < d → d ≤ row.extent → (d ≡ n → ⊥) → entry_at after numbers row.at (row.at + d) ≡ value d)
        × Stored numbers row.at n (λ d. entry_at after numbers row.at (row.at + d)) before after
    ended {before} {between} {after} {value} x f s e =
        let e' : after ≡ set between (cell (get_or numbers (row.at + n) 0) (get_or numbers row.at 0)) x = rw whole_is e in
        rw e' (
          ended_last numbers row.at n row.extent x value before between (falls _ f) (omega arith) (omega arith) s,
          ended_short numbers row.at n row.extent x value before between (falls _ f) (omega arith) (omega arith) s,
          ended_kept numbers row.at n row.extent x value before between (falls _ f) (omega arith) (omega arith) s,
        )

    pub row_entered : RowEntered costs choices numbers row prices same tails stops costs₂ choices₂ tails₂ stops₂
    row_entered =
        let c = ended (cost_digit last) held.0 sc ec in
        let k = ended (choice_digits last) held.1 sk ek in
        record {
          short = λ z d p l. elim (ℕ_discrete d n) [
            | yes q ↦ rw (q, c.0, k.0) (last_entry z n (omega arith) whole_is)
            | no q ↦ rw (c.1 d p l q, k.1 d p l q) (solved_entry z keys (rowed z) d p l)
          ];
          whole = λ z d p e. let q : d ≡ n = omega arith in rw (q, c.0, k.0) (last_entry z n (omega arith) whole_is);
          costs_kept = c.2;
          choices_kept = k.2;
          tail = tail;
          tails_are = tails_are;
          tail_is = λ z. tail_is ∙ tail_cost z n (omega arith) whole_is;
          longest = longest;
          stops_are = stops_are;
          some = a.some;
          covers = λ z. a.covers z (started_rowed z first s);
        }
