-- What is entered: what a stored row enters and leaves alone, what stays entered, and what lies below a sequence.
use mathlib.Core.Path.{◌≡◌, refl, ap, ◌∙◌}
use mathlib.Core.Logic.{◌⊎◌, inl, ⊎_elim}
use mathlib.Core.List.{List}
use Prim.Native.Nat.{ℕ, ◌+◌, ◌<◌, ◌≤◌}
use native.Mathlib.Decide.{dec_lt}
use native.Mathlib.Omega.{arith}
use lib.ListN.{get_or}
use Rattle.format.specs.Limits.{Prices}
use Rattle.format.specs.Forest.{Forest, end, step, group, repeat, join, Plain, Allowed, siblings, nodes}
use Rattle.format.proofs.Forests.{nodes_join}
use Rattle.optimum.specs.Cheapest.{Run, front, back}
use Rattle.optimum.proofs.Cut.{join_cut, front_add, front_whole, nodes_cut, run_front, run_back, run_rest, run_body, run_after}
use Rattle.table.specs.Table.{Entry, Kept, KeptOthers, cell, number, stretch, Stored}
use Rattle.table.proofs.Cells.{cell_same}
use Rattle.table.specs.Used.{to_end, again, Inside, itself, deeper, UsedEntered, UsedFilled}
use Rattle.table.proofs.Tables.{number_last, number_within, number_mono, number_fall, number_after_group, back_next}
use Rattle.solver.specs.Rows.{Entered, Extending}
use Rattle.filling.specs.Filling.{Below, Filled}

-- A row stored at sibling i of the sequence t: all stretches from there on.
module _ (A : Allowed) (b : ℕ) (t : Forest) (numbers : List ℕ) (i n : ℕ) (r : Run A t) (whole : i + n ≡ siblings t)
    (numbered : (j : ℕ) → j ≤ siblings t → get_or numbers j 0 ≡ number b t j) where
  stored_at : (row : ℕ → ℕ) (before after : List ℕ) → Stored numbers i n row before after → (d : ℕ) → 0 < d → d ≤ n
      → get_or after (cell (number b t (i + d)) (number b t i)) 0 ≡ row d
  stored_at row before after s d p q =
      rw (numbered i (omega arith), numbered (i + d) (omega arith)) at (s.entered d p q)

  stored_other : (row : ℕ → ℕ) (before after : List ℕ) → Stored numbers i n row before after → (x : ℕ)
      → ((d : ℕ) → 0 < d → d ≤ n → x ≡ cell (number b t (i + d)) (number b t i) → ⊥) → get_or after x 0 ≡ get_or before x 0
  stored_other row before after s x f =
      s.others x (λ d p q z. f d p q (rw (numbered i (omega arith), numbered (i + d) (omega arith)) at z))

  -- It changes entries of the sequence alone.
  pub stored_kept : (row : ℕ → ℕ) (before after : List ℕ) → Stored numbers i n row before after → KeptOthers b t before after
  stored_kept row before after s =
      record {
        same_length = s.same_length;
        others = λ x f. stored_other row before after s x (λ d p q z. f i (i + d) (omega arith) (omega arith) z);
      }

  -- The rows further on stay, since no two stretches share an entry.
  stored_further : (row : ℕ → ℕ) (before after : List ℕ) → Stored numbers i n row before after → (j d : ℕ) → i < j → 0 < d → j + d ≤ siblings t
      → get_or after (cell (number b t (j + d)) (number b t j)) 0 ≡ get_or before (cell (number b t (j + d)) (number b t j)) 0
  stored_further row before after s j d h p q =
      stored_other row before after s (cell (number b t (j + d)) (number b t j))
      (λ c k l z. omega (
        arith,
        number_fall A b i j t r h (omega arith),
        (cell_same _ _ _ _ (number_fall A b j (j + d) t r (omega arith) q) (number_fall A b i (i + c) t r (omega arith) (omega arith)) z).1,
      ))

  -- A solved row, with the rows further on entered before, enters one sibling more.
  pub stored_entered : (P : Prices) (row_costs row_choices : ℕ → ℕ) (extents extents' costs choices costs' choices' : List ℕ) → 0 < n
      → ((j : ℕ) → i < j → get_or extents' j 0 ≡ get_or extents j 0)
      → ((d : ℕ) → 0 < d → d ≤ get_or extents' i 0 → Entry A P (stretch t i d) (row_costs d) (row_choices d))
      → ((d : ℕ) → 0 < d → i + d ≡ siblings t → Entry A P (stretch t i d) (row_costs d) (row_choices d))
      → Stored numbers i n row_costs costs costs' → Stored numbers i n row_choices choices choices'
      → Entered A P b t (i + 1) extents costs choices → Entered A P b t i extents' costs' choices'
  stored_entered P row_costs row_choices extents extents' costs choices costs' choices' some same short last sc sk e =
      record {
        short = λ j d h p q l. elim (dec_lt i j) [
          | yes k ↦ further j d k p q (e.short j d (omega arith) p q (rw (same j k) at l))
          | no k ↦ let z : j ≡ i = omega arith in rw z (here d p (omega arith) (short d p (rw z at l)))
        ];
        whole = λ j d h p q. elim (dec_lt i j) [
          | yes k ↦ further j d k p (omega arith) (e.whole j d (omega arith) p q)
          | no k ↦ let z : j ≡ i = omega arith in rw z (here d p (omega arith) (last d p (omega arith)))
        ];
      }
    where
      further : (j d : ℕ) → i < j → 0 < d → j + d ≤ siblings t
          → Entry A P (stretch t j d) (get_or costs (cell (number b t (j + d)) (number b t j)) 0) (get_or choices (cell (number b t (j + d)) (number b t j)) 0)
          → Entry A P (stretch t j d) (get_or costs' (cell (number b t (j + d)) (number b t j)) 0) (get_or choices' (cell (number b t (j + d)) (number b t j)) 0)
      further j d l p q =
          λ x. rw (stored_further row_costs costs costs' sc j d l p q, stored_further row_choices choices choices' sk j d l p q) x

      here : (d : ℕ) → 0 < d → d ≤ n → Entry A P (stretch t i d) (row_costs d) (row_choices d)
          → Entry A P (stretch t i d) (get_or costs' (cell (number b t (i + d)) (number b t i)) 0) (get_or choices' (cell (number b t (i + d)) (number b t i)) 0)
      here d p l x = rw (stored_at row_costs costs costs' sc d p l, stored_at row_choices choices choices' sk d p l) x

-- Where the rows from the first on are solved, what a fold can use is entered.
pub entered_used : (A : Allowed) (P : Prices) (b : ℕ) (t : Forest) (extents costs choices : List ℕ) → Extending A.marked t 0 extents
    → Entered A P b t 0 extents costs choices → UsedEntered A P b t costs choices
entered_used A P b t extents costs choices x e i d p q (to_end h) = e.whole i d (omega arith) p h
entered_used A P b t extents costs choices x e i d p q (again w l h f) =
    e.short i d (omega arith) p q (x.used i d w (omega arith) (omega arith) l h f)

-- What is kept: nothing changed, one change after another, and a change of less.
pub kept_others_none : (b : ℕ) (t : Forest) (xs : List ℕ) → KeptOthers b t xs xs
kept_others_none b t xs = record { same_length = refl; others = λ x f. refl }

pub kept_others_then : (b : ℕ) (t : Forest) (xs ys zs : List ℕ) → KeptOthers b t xs ys → KeptOthers b t ys zs → KeptOthers b t xs zs
kept_others_then b t xs ys zs k l =
    record { same_length = l.same_length ∙ k.same_length; others = λ x f. l.others x f ∙ k.others x f }

pub kept_none : (b n : ℕ) (xs : List ℕ) → Kept b n xs xs
kept_none b n xs = record { same_length = refl; outside = λ x f. refl }

pub kept_then : (b n : ℕ) (xs ys zs : List ℕ) → Kept b n xs ys → Kept b n ys zs → Kept b n xs zs
kept_then b n xs ys zs k l =
    record { same_length = l.same_length ∙ k.same_length; outside = λ x f. l.outside x f ∙ k.outside x f }

pub kept_within : (b n b' n' : ℕ) (xs ys : List ℕ) → b' ≤ b → b + n ≤ b' + n' → Kept b n xs ys → Kept b' n' xs ys
kept_within b n b' n' xs ys h l k =
    record {
      same_length = k.same_length;
      outside = λ x f. k.outside x (λ p q i j m z. f p q (omega arith) j (omega arith) z);
    }

pub kept_of_others : (A : Allowed) (b : ℕ) (t : Forest) (xs ys : List ℕ) → Run A t → KeptOthers b t xs ys → Kept b (nodes t) xs ys
kept_of_others A b t xs ys r k =
    record {
      same_length = k.same_length;
      outside = λ x f. k.others x (λ i j l h z.
          f (number b t j) (number b t i) (omega arith) (number_fall A b i j t r l h) (number_within b i t) z);
    }

-- All entries of intervals within [b, b + n) are the same in both lists.
record Alike (b n : ℕ) (xs ys : List ℕ) : Type 0 where
  alike : (p q : ℕ) → b ≤ p → p < q → q ≤ b + n → get_or ys (cell p q) 0 ≡ get_or xs (cell p q) 0

alike_within : (b n b' n' : ℕ) (xs ys : List ℕ) → b ≤ b' → b' + n' ≤ b + n → Alike b n xs ys → Alike b' n' xs ys
alike_within b n b' n' xs ys h l a = record { alike = λ p q i j k. a.alike p q (omega arith) j (omega arith) }

-- Then what they say of a sequence that has its nodes there is the same.
module _ (A : Allowed) (P : Prices) (cs ks cs' ks' : List ℕ) where
  used_alike : (b : ℕ) (t : Forest) → Run A t → Alike b (nodes t) cs cs' → Alike b (nodes t) ks ks' → UsedEntered A P b t cs ks
      → UsedEntered A P b t cs' ks'
  used_alike b t r ac ak e j d p q u =
      let l = number_fall A b j (j + d) t r (omega arith) q in
      let w = number_within b j t in
      rw (ac.alike (number b t (j + d)) (number b t j) (omega arith) l w, ak.alike (number b t (j + d)) (number b t j) (omega arith) l w)
      (e j d p q u)

  below_alike : (b : ℕ) (t : Forest) → Run A t → Alike b (nodes t) cs cs' → Alike b (nodes t) ks ks' → Below A P b t cs ks → Below A P b t cs' ks'
  unfolding nodes
  below_alike b end r ac ak w = tt
  below_alike b (step l f) r ac ak w =
      below_alike b f (run_rest r) (alike_within b (1 + nodes f) b (nodes f) cs cs' (omega arith) (omega arith) ac)
      (alike_within b (1 + nodes f) b (nodes f) ks ks' (omega arith) (omega arith) ak) w
  below_alike b (group l g f) r ac ak w =
      let gc = alike_within b (1 + nodes g + nodes f) (b + nodes f) (nodes g) cs cs' (omega arith) (omega arith) ac in
      let gk = alike_within b (1 + nodes g + nodes f) (b + nodes f) (nodes g) ks ks' (omega arith) (omega arith) ak in
      let fc = alike_within b (1 + nodes g + nodes f) b (nodes f) cs cs' (omega arith) (omega arith) ac in
      let fk = alike_within b (1 + nodes g + nodes f) b (nodes f) ks ks' (omega arith) (omega arith) ak in (
        used_alike (b + nodes f) g (run_body r) gc gk w.0,
        below_alike (b + nodes f) g (run_body r) gc gk w.1,
        below_alike b f (run_after r) fc fk w.2,
      )
  below_alike b (repeat h v g f) r ac ak w = tt

-- A change in an interval apart from those nodes leaves it so.
kept_alike : (b n b' n' : ℕ) (xs ys : List ℕ) → (b' + n' ≤ b) ⊎ (b + n ≤ b') → Kept b' n' xs ys → Alike b n xs ys
kept_alike b n b' n' xs ys apart k =
    record {
      alike = λ p q i j l. k.outside (cell p q) (λ p' q' i' j' l' z.
          let e = cell_same p q p' q' j j' z in ⊎_elim (λ h. omega arith) (λ h. omega arith) apart);
    }

module _ (A : Allowed) (P : Prices) (b : ℕ) (t : Forest) (b' n' : ℕ) (cs ks cs' ks' : List ℕ) (r : Run A t)
    (apart : (b' + n' ≤ b) ⊎ (b + nodes t ≤ b')) (kc : Kept b' n' cs cs') (kk : Kept b' n' ks ks') where
  pub below_kept : Below A P b t cs ks → Below A P b t cs' ks'
  below_kept =
      below_alike A P cs ks cs' ks' b t r (kept_alike b (nodes t) b' n' cs cs' apart kc) (kept_alike b (nodes t) b' n' ks ks' apart kk)

-- No sibling's number lies between two that follow each other.
number_between : (b i j : ℕ) (t : Forest) → number b t (i + 1) < number b t j → number b t j < number b t i → ⊥
number_between b i j t l h = by_place (dec_lt i j)
  where
    by_place : Dec (i < j) → ⊥
    by_place (yes m) = omega (arith, number_mono b (i + 1) j t (omega arith))
    by_place (no m) = omega (arith, number_mono b j i t (omega arith))

-- So a change of the sequence's own stretches leaves the children of its groups alone.
module _ (A : Allowed) (b : ℕ) (t : Forest) (r : Run A t) where
  others_alike : (i l : ℕ) (g f : Forest) (xs ys : List ℕ) → back i t ≡ group l g f → KeptOthers b t xs ys
      → Alike (number b t (i + 1)) (nodes g) xs ys
  others_alike i l g f xs ys e k =
      record {
        alike = λ p q u v w. k.others (cell p q) (λ i' j' m n z.
            let same = cell_same p q (number b t j') (number b t i') v (number_fall A b i' j' t r m n) z in
            number_between b i i' t (omega arith) (omega (arith, number_after_group b i t l g f e)));
      }

  module _ (P : Prices) (cs ks cs' ks' : List ℕ) (kc : KeptOthers b t cs cs') (kk : KeptOthers b t ks ks') where
    others_from : (i : ℕ) (f : Forest) → Run A f → back i t ≡ f → Below A P b f cs ks → Below A P b f cs' ks'
    unfolding back
    others_from i end q e w = tt
    others_from i (step l f) q e w = others_from (i + 1) f (run_rest q) (back_next i t (step l f) e) w
    others_from i (group l g f) q e w =
        let next = back_next i t (group l g f) e in
        let ac = rw next at (others_alike i l g f cs cs' e kc) in
        let ak = rw next at (others_alike i l g f ks ks' e kk) in (
          used_alike A P cs ks cs' ks' (b + nodes f) g (run_body q) ac ak w.0,
          below_alike A P cs ks cs' ks' (b + nodes f) g (run_body q) ac ak w.1,
          others_from (i + 1) f (run_after q) next w.2,
        )
    others_from i (repeat h v g f) q e w = tt

    pub below_others : Below A P b t cs ks → Below A P b t cs' ks'
    unfolding back
    below_others = others_from 0 t r refl

-- What lies below two sequences, one after the other.
module _ (A : Allowed) (P : Prices) (cs ks : List ℕ) where
  below_join : (b c : ℕ) (x y : Forest) → c ≡ b + nodes y → Below A P c x cs ks → Below A P b y cs ks → Below A P b (join x y) cs ks
  unfolding join
  below_join b c end y e v w = w
  below_join b c (step l f) y e v w = below_join b c f y e v w
  below_join b c (group l g f) y e v w =
      let z : b + nodes (join f y) ≡ c + nodes f = omega (arith, nodes_join f y) in
      (rw z v.0, rw z v.1, below_join b c f y e v.2 w)
  below_join b c (repeat h u g f) y e v w = tt

  below_rest : (b : ℕ) (x y : Forest) → Plain x → Below A P b (join x y) cs ks → Below A P b y cs ks
  unfolding join
  below_rest b end y p w = w
  below_rest b (step l f) y p w = below_rest b f y p w
  below_rest b (group l g f) y p w = below_rest b f y p.1 w.2
  below_rest b (repeat h u g f) y p w = absurd p

  -- For a loop over the siblings: what lies below the first i of them.
  module _ (b : ℕ) (t : Forest) where
    pub below_none : Below A P (number b t 0) (front 0 t) cs ks
    unfolding front
    below_none = tt

    below_next : (i : ℕ) (f : Forest) → back i t ≡ f → Below A P (number b t i) (front i t) cs ks
        → Below A P (number b t (i + 1)) (front 1 f) cs ks → Below A P (number b t (i + 1)) (front (i + 1) t) cs ks
    below_next i f e v w =
        let z : number b t i ≡ number b t (i + 1) + nodes (front 1 f) =
        omega (arith, nodes_cut 1 f, ap nodes e, ap nodes (back_next i t f e)) in
        rw (front_add i 1 (i + 1) t refl, e) (below_join (number b t (i + 1)) (number b t i) (front i t) (front 1 f) z v w)

    pub below_step : (i l : ℕ) (f : Forest) → back i t ≡ step l f → Below A P (number b t i) (front i t) cs ks
        → Below A P (number b t (i + 1)) (front (i + 1) t) cs ks
    unfolding front
    below_step i l f e v = below_next i (step l f) e v tt

    pub below_whole : Plain t → Below A P (number b t (siblings t)) (front (siblings t) t) cs ks → Below A P b t cs ks
    below_whole p w = rw (number_last b t p, front_whole (siblings t) t p refl) at w

    -- And what lies below one group.
    pub below_at : (i l : ℕ) (g f : Forest) → Run A t → back i t ≡ group l g f → Below A P b t cs ks → Filled A P (number b t (i + 1)) g cs ks
    unfolding back
    below_at i l g f r e w =
        let v = below_rest b (front i t) (group l g f) (run_front i r).plain (rw (← e, join_cut) w) in
        rw (back_next i t (group l g f) e) (record { top = v.0; below = v.1 })

-- The next group filled: only entries of its children have changed.
module _ (A : Allowed) (b : ℕ) (t : Forest) (r : Run A t) (i l : ℕ) (g f : Forest) (e : back i t ≡ group l g f) where
  pub kept_in_group : (xs ys : List ℕ) → Kept (number b t (i + 1)) (nodes g) xs ys → Kept b (nodes t) xs ys
  kept_in_group xs ys =
      kept_within (number b t (i + 1)) (nodes g) b (nodes t) xs ys (omega arith)
      (omega (arith, number_after_group b i t l g f e, number_within b i t))

  pub below_group : (P : Prices) (cs ks cs' ks' : List ℕ) → Kept (number b t (i + 1)) (nodes g) cs cs' → Kept (number b t (i + 1)) (nodes g) ks ks'
      → Filled A P (number b t (i + 1)) g cs' ks' → Below A P (number b t i) (front i t) cs ks
      → Below A P (number b t (i + 1)) (front (i + 1) t) cs' ks'
  unfolding front nodes
  below_group P cs ks cs' ks' kc kk w v =
      let apart = number_after_group b i t l g f e in
      let kept = below_kept A P (number b t i) (front i t) (number b t (i + 1)) (nodes g) cs ks cs' ks' (run_front i r) (inl (omega arith)) kc kk v in
      let z : number b t (i + 1) + 0 ≡ number b t (i + 1) = omega arith in
      below_next A P cs' ks' b t i (group l g f) e kept (rw z w.top, rw z w.below, tt)

-- A filled table.
module _ (A : Allowed) (P : Prices) (costs choices : List ℕ) where
  filled_inside : (b : ℕ) (t : Forest) (c : ℕ) (g : Forest) → Inside b t c g → Run A t → Filled A P b t costs choices → Filled A P c g costs choices
  filled_inside b t c g itself r z = z
  filled_inside b t c g (deeper i l h f e w) r z =
      filled_inside (number b t (i + 1)) h c g w (run_body (rw e at (run_back i r))) (below_at A P costs choices b t i l h f r e z.below)

  pub used_filled : (b : ℕ) (t : Forest) → Run A t → Filled A P b t costs choices → UsedFilled A P b t costs choices
  used_filled b t r z =
      record { entry = λ c g w. (filled_inside b t c g w r z).top }
