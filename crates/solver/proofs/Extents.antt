-- How far rows are solved: what stands again further on is, and one row more keeps it so.
use mathlib.Core.Path.{◌≡◌, refl}
use mathlib.Core.List.{List}
use Prim.Native.Nat.{ℕ, suc, ◌+◌, ◌-◌, ◌*◌, ◌<◌, ◌≤◌}
use native.Mathlib.Nat.{mul-le-mul_right}
use native.Mathlib.Decide.{dec_lt, ℕ_discrete}
use native.Mathlib.Omega.{arith}
use lib.ListN.{length, get_or, set}
use lib.Seq.{get_or-set_same, get_or-set_other}
use Rattle.format.specs.Forest.{Forest, Allowed, siblings}
use Rattle.optimum.specs.Cheapest.{Run, back, FreeCopy, Power}
use Rattle.optimum.proofs.Cut.{back_back, back_piece, run_back, siblings_back}
use Rattle.optimum.proofs.Powers.{free_less, free_back, reach, shift_from_power}
use Rattle.table.specs.Table.{stretch}
use Rattle.solver.specs.declared.matches.Source.{Source}
use Rattle.solver.specs.Rows.{Matches, Extending, Drawn}
use Rattle.optimum.proofs.Matches.{matched_most}

module _ {A : Allowed} {t : Forest} {i m : ℕ} {extents same : List ℕ} {g : Source} (r : Run A t) (all : siblings t ≡ m) (some : i < m)
    (x : Extending A.marked t (i + 1) extents) (matches : Matches A.marked (back i t) same) (drawn : Drawn extents i m same g) where
  from_here : i + siblings (back i t) ≡ m
  from_here = omega (arith, siblings_back i t r.plain (omega arith))

  -- What stands again is solved.
  pub drawn_used : (d w : ℕ) → 0 < w → d ≤ w → i + w + d ≤ m → FreeCopy A.marked (stretch t i d) (stretch t (i + w) d) → d ≤ g.extent
  drawn_used d w pos less fits e = by_size (dec_lt 0 d)
    where
      further : 0 < d → d ≤ get_or extents (i + 1) 0 + 1
      further p =
          let rest : (j k : ℕ) → j + 1 ≡ k → back 1 (stretch t j d) ≡ stretch t k (d - 1) = λ j k q. back_piece j k 1 (d - 1) d t q (omega arith) in
          let again : FreeCopy A.marked (stretch t (i + 1) (d - 1)) (stretch t (i + 1 + w) (d - 1)) =
          rw (rest i (i + 1) refl, rest (i + w) (i + 1 + w) (omega arith)) at (free_back A.marked 1 _ _ e) in
          omega (arith, x.used (i + 1) (d - 1) w (omega arith) pos (omega arith) (omega arith) again)

      by_size : Dec (0 < d) → d ≤ g.extent
      by_size (no n) = omega arith
      by_size (yes p) =
          drawn.far w d pos (omega arith)
          (matched_most w (get_or same w 0) d (matches.matched w pos (omega (arith, from_here))) (omega (arith, from_here)) (rw (back_back i w (i + w) t refl) e))
          less (further p)

  -- So is the body of a repeat.
  pub drawn_body : (h w : ℕ) → Power A (back i t) h w → w ≤ g.extent
  drawn_body h w p =
      let q = reach p in
      let twice = p.repeats.twice in
      let one : suc (h - 1) ≡ h = omega arith in
      let u : 1 ≤ h - 1 = omega arith in
      let n : w + ((h - 1) * w - w) ≡ (h - 1) * w = omega (arith, mul-le-mul_right w u) in
      drawn_used w w q.some (omega arith) (omega (arith, from_here))
      (rw (back_back i w (i + w) t refl)
      at (free_less A.marked w ((h - 1) * w) (back i t) (back w (back i t)) (omega (arith, n)) (shift_from_power (h - 1) h w (run_back i r) one p)))

  -- A row ends where its ends do.
  pub drawn_within : i + g.extent ≤ m
  drawn_within = omega (arith, drawn.close, x.within (i + 1) (omega arith) (omega arith))

  pub drawn_closed : (c : ℕ) → 0 < c → i + c ≤ m → g.extent ≤ get_or extents (i + c) 0 + c
  drawn_closed c p l =
      let e : i + 1 + (c - 1) ≡ i + c = omega arith in
      omega (arith, drawn.close, rw e at (x.closed (i + 1) (c - 1) (omega arith) (omega arith)))

  -- One row more.
  module _ (short : i < length extents) where
    here : get_or (set extents i g.extent) i 0 ≡ g.extent
    here = get_or-set_same extents i g.extent 0 short

    later : (j : ℕ) → i < j → get_or (set extents i g.extent) j 0 ≡ get_or extents j 0
    later j l = get_or-set_other extents i j g.extent 0 (λ e. omega arith)

    pub extending_more : Extending A.marked t i (set extents i g.extent)
    extending_more = record { within = within; closed = closed; used = used }
      where
        within : (j : ℕ) → i ≤ j → j ≤ siblings t → j + get_or (set extents i g.extent) j 0 ≤ siblings t
        within j a b = elim (ℕ_discrete j i) [
          | yes e ↦ rw (e, here) (omega (arith, drawn_within))
          | no e ↦ rw (later j (omega arith)) (x.within j (omega arith) b)
        ]

        closed : (j c : ℕ) → i ≤ j → j + c ≤ siblings t → get_or (set extents i g.extent) j 0 ≤ get_or (set extents i g.extent) (j + c) 0 + c
        closed j c a b = elim (ℕ_discrete j i) [
          | yes e ↦ elim (ℕ_discrete c 0) [
            | yes z ↦ let q : j + c ≡ j = omega arith in rw q (omega arith)
            | no z ↦ rw (e, here, later (i + c) (omega arith)) (drawn_closed c (omega arith) (omega arith))
          ]
          | no e ↦ rw (later j (omega arith), later (j + c) (omega arith)) (x.closed j c (omega arith) b)
        ]

        used : (j d w : ℕ) → i ≤ j → 0 < w → d ≤ w → j + w + d ≤ siblings t → FreeCopy A.marked (stretch t j d) (stretch t (j + w) d)
            → d ≤ get_or (set extents i g.extent) j 0
        used j d w a p l b e = elim (ℕ_discrete j i) [
          | yes q ↦ rw (q, here) (drawn_used d w p l (omega arith) (rw q at e))
          | no q ↦ rw (later j (omega arith)) (x.used j d w (omega arith) p l b e)
        ]
