-- Solving a row: the keys that it starts from, what one more solved stretch does to those of longer ones, and the end.
use mathlib.Core.Path.{◌≡◌, refl, sym, ap, ◌∙◌}
use mathlib.Core.Bool.{Bool, true, false}
use mathlib.Core.Logic.{⊎_elim}
use mathlib.Core.List.{List}
use Prim.Native.Nat.{ℕ, suc, ◌+◌, ◌-◌, ◌*◌, ◌<◌, ◌≤◌}
use native.Mathlib.Nat.{mul-le-mul, mul-le-mul_right}
use native.Mathlib.Decide.{dec_lt, ℕ_discrete}
use native.Mathlib.Omega.{arith}
use lib.Dec.{eqb}
use lib.ListN.{get_or}
use borrow.Author.Tests.{eqb-true}
use Rattle.format.specs.Limits.{Prices, of_repeat}
use Rattle.format.specs.Forest.{Forest, Allowed, siblings}
use Rattle.optimum.specs.Cheapest.{Run, front, back, Candidate, plain, power, Power, Least, usual, rank, best_cost}
use Rattle.optimum.proofs.Cut.{back_back, back_piece, front_front, front_whole, run_back, siblings_back, siblings_piece, siblings_le_nodes}
use Rattle.optimum.proofs.Powers.{front_less, reach}
use Rattle.optimum.proofs.Rank.{rank_usual}
use Rattle.optimum.proofs.Least.{least_unique}
use Rattle.optimum.proofs.Second.{Second, second}
use Rattle.table.specs.Keys.{key, combined_digits, cost_digit, choice_digits, count_digit, width_digit, covered, combined_base, stored_key}
use Rattle.table.specs.Table.{BestKey, Entry, stretch, entry_at, key_at, rest_key}
use Rattle.solver.specs.declared.row.Row.{Row}
use Rattle.solver.specs.Rows.{behind_key, RowReady, RowFits, RowHeld, RowRead, RowLow, Rowed, KeysReady, top_cover, Advanced, Started, Settled, Pushed, push, pass, skip, Widened, offer, too_wide, unlike, NoneBehind, Keyed, Came, pair_key, offer_key}
use Rattle.optimum.specs.Matches.{Matched}
use Rattle.optimum.proofs.Matches.{copy_more, near_power, power_near}
use Rattle.solver.proofs.Extents.{drawn_within, drawn_closed}
use Rattle.solver.proofs.Stretches.{Modest, fitting, piece, cost_low, best_entry, best_combined, best_covers, best_low, best_is, best_keyed, best_one, whole_price, whole_candidate, first_candidate, first_price, first_key, keyed_best, keyed_plain}

-- A pair that may stand first, by its key.
pub record Pair (A : Allowed) (P : Prices) (x : Forest) (k : ℕ) : Type 0 where
  pub count : ℕ
  pub width : ℕ
  pub candidate : Candidate A x count width
  pub is_key : k ≡ pair_key A P x count width

-- A pair that covers something is a repeat.
covering_power : {A : Allowed} {x : Forest} (h w c : ℕ) → h * w ≡ c → 0 < c → Candidate A x h w → Power A x h w
covering_power h w c e pos plain = absurd (omega arith)
covering_power h w c e pos (power p) = p

-- The keys of up to `span` siblings stay.
push_keeps : {costs choices numbers tails : List ℕ} (row : Row) {stops : List ℕ} {d k : ℕ} {before after : List ℕ} → Pushed costs choices numbers tails row stops d k before after
    → (n : ℕ) → n ≤ row.span → get_or after n 0 ≡ get_or before n 0
push_keeps row (push from a b c f p) n l = ⊎_elim (λ x. x) (λ x. absurd (omega arith)) (p.came n)
push_keeps row (pass f x) n l = rw x
push_keeps row (skip a b c x) n l = rw x

-- And so does that of the stretch itself.
pub push_own : {costs choices numbers tails : List ℕ} {row : Row} {stops : List ℕ} {d k : ℕ} {before after : List ℕ} → Pushed costs choices numbers tails row stops d k before after
    → get_or after d 0 ≡ get_or before d 0
push_own {d = d} (push from a b c f p) = ⊎_elim (λ x. x) (λ x. absurd (omega arith)) (p.came d)
push_own (pass f x) = rw x
push_own (skip a b c x) = rw x

widen_keeps : (row : Row) {prices : List ℕ} {cost d room : ℕ} {before after : List ℕ} → Widened row prices cost d room before after
    → (n : ℕ) → n ≤ row.span → get_or after n 0 ≡ get_or before n 0
widen_keeps row {d = d} (offer from a b c f p) n l =
    ⊎_elim (λ x. x) (λ x. absurd (omega (arith, mul-le-mul_right d x.late, x.covers))) (p.came n)
widen_keeps row (too_wide f x) n l = rw x
widen_keeps row (unlike f x) n l = rw x

module _ {costs choices numbers : List ℕ} {row : Row} {prices same tails stops : List ℕ}
    (z : RowReady costs choices numbers row prices same tails stops) where
  -- The row's sibling, how many there are, how many match and how far it is solved; the tree that it is of, what is allowed there, and
  -- the prices.
  abbrev i : ℕ
  i = row.at

  abbrev m : ℕ
  m = row.end

  abbrev span : ℕ
  span = row.span

  abbrev extent : ℕ
  extent = row.extent

  abbrev A : Allowed
  A = z.allowed

  abbrev P : Prices
  P = z.prices_are

  abbrev t : Forest
  t = z.tree

  pub modest : Modest A P t
  modest = record { run = z.run; few = z.total; step_low = z.step_low; group_low = z.group_low }

  pub from_here : i + siblings (back i t) ≡ m
  from_here = omega (arith, siblings_back i t z.run.plain (omega (arith, z.some, z.all)), z.all)

  pub few : m ≤ 1024
  few = omega (arith, siblings_le_nodes t z.run.plain, z.total, z.all)

  -- The row's stretches end within the sequence, and their ends are solved.
  pub inside : i + extent ≤ m
  inside = drawn_within z.run z.all z.some z.extending z.matches z.drawn

  ends_solved : (c r n : ℕ) → 0 < c → c + r ≡ n → n ≤ extent → r ≤ get_or z.extents (i + c) 0
  ends_solved c r n p e h =
      omega (arith, inside, drawn_closed z.run z.all z.some z.extending z.matches z.drawn c p (omega (arith, inside)))

  -- The table's entries of the rows further on.
  entered : (j n : ℕ) → i < j → 0 < n → j + n ≤ m → n ≤ get_or z.extents j 0
      → Entry A P (stretch t j n) (entry_at costs numbers j (j + n)) (entry_at choices numbers j (j + n))
  entered j n l p h s =
      rw (z.numbers_are.numbered j (omega (arith, z.all)), z.numbers_are.numbered (j + n) (omega (arith, z.all)))
      (z.rows_below.short j n (omega arith) p (omega (arith, z.all)) s)

  -- The key of what follows the first c of n siblings, and what that adds to the key of an item in front of it.
  rest_best : (c r n : ℕ) → 0 < c → 0 < r → c + r ≡ n → n ≤ extent → BestKey A P (stretch t (i + c) r) (key_at costs choices numbers (i + c) (i + n))
  rest_best c r n p q e h =
      let f : i + c + r ≡ i + n = omega arith in
      rw (← f) (entered (i + c) r (omega arith) q (omega (arith, inside)) (ends_solved c r n p e h)).best

  rest_adds : (c r n : ℕ) → 0 < c → 0 < r → c + r ≡ n → n ≤ extent
      → rest_key costs choices numbers (i + c) (i + n) ≡ key (best_cost A P (front r (back (i + c) t))) 0
  rest_adds c r n p q e h = rw (best_combined modest (i + c) r (key_at costs choices numbers (i + c) (i + n)) (rest_best c r n p q e h))

  -- What follows them up to the end, as the list of tails has it; and what either of the two adds.
  pub tail_adds : (c r : ℕ) → 0 < c → i + c + r ≡ m → get_or tails (i + c) 0 ≡ key (best_cost A P (front r (back (i + c) t))) 0
  tail_adds c r p e =
      let size = siblings_back (i + c) t z.run.plain (omega (arith, z.all)) in
      z.tailing.tail (i + c) (omega arith) (omega (arith, z.all))
      ∙ rw (front_whole r (back (i + c) t) (run_back (i + c) z.run).plain (omega (arith, z.all)))

  behind_adds : (c r n : ℕ) → 0 < c → 0 < r → c + r ≡ n → n ≤ extent
      → behind_key costs choices numbers tails m (i + c) (i + n) ≡ key (best_cost A P (front r (back (i + c) t))) 0
  behind_adds c r n p q e h = by_end (eqb (i + n) m) refl
    where
      by_end : (b : Bool) → eqb (i + n) m ≡ b → behind_key costs choices numbers tails m (i + c) (i + n) ≡ key (best_cost A P (front r (back (i + c) t))) 0
      by_end true f = let last : i + n ≡ m = eqb-true _ _ f in rw f (tail_adds c r p (omega arith))
      by_end false f = rw f (rest_adds c r n p q e h)

  pub matched : (w : ℕ) → 0 < w → i + w ≤ m → Matched A.marked (back i t) w (get_or same w 0)
  matched w p h = z.matches.matched w p (omega (arith, from_here))

  -- No match reaches past the end.
  pub match_low : (w : ℕ) → 0 < w → i + w ≤ m → i + w + get_or same w 0 ≤ m
  match_low w p h = let d = matched w p h in omega (arith, from_here)

  own_low : row.own < combined_base
  own_low = omega (arith, z.own_cost, cost_low modest i 1)

  pub row_fits : RowFits row
  row_fits =
      let d = z.drawn in
      record {
        few = few;
        some = z.some;
        low = own_low;
        taken = omega (arith, d.spans, match_low row.shift d.some d.near);
        under = d.under;
        within = inside;
      }

  -- The row's own place is in the lists.
  pub at_low : row.at < 1025
  at_low = omega (arith, z.some, few)

  -- What the row reads of the table is low.
  row_low : RowLow costs choices numbers row
  row_low =
      let d = z.drawn in
      record {
        rests = λ c n p l h. best_low modest (i + c) (n - c) _ (rest_best c (n - c) n p (omega arith) (omega arith) h);
        taken = λ c p l. best_low modest (i + row.shift) c _
            (entered (i + row.shift) c (omega (arith, d.some)) p (omega (arith, row_fits.taken)) (omega (arith, d.entered))).best;
      }

  pub row_read : RowHeld costs choices numbers row → RowRead costs choices numbers row
  row_read held = (held.0, held.1, row_low)

  -- What the row starts from: where its siblings are those `shift` further on, the key is that row's.
  module _ (keys : List ℕ) (s : Started costs choices numbers row keys) where
    started_one : BestKey A P (stretch t i 1) (get_or keys 1 0)
    started_one = best_one modest i (get_or keys 1 0) (omega (arith, z.some, z.all)) (omega (arith, s.one, z.own_cost))

    started_final : (n : ℕ) → 0 < n → n ≤ span → BestKey A P (stretch t i n) (get_or keys n 0)
    started_final n p h = by_place (dec_lt 1 n)
      where
        same_stretch : stretch t i n ≡ stretch t (i + row.shift) n
        same_stretch =
            let d = z.drawn in
            let k = get_or same row.shift 0 in
            front_less n (k - n) k (back i t) (back row.shift (back i t)) (omega (arith, d.spans)) (matched row.shift d.some d.near).shift.same
            ∙ ap (front n) (back_back i row.shift (i + row.shift) t refl)

        by_place : Dec (1 < n) → BestKey A P (stretch t i n) (get_or keys n 0)
        by_place (yes l) =
            let d = z.drawn in
            rw (s.copied n l h, same_stretch)
            (entered (i + row.shift) n (omega (arith, d.some)) p (omega (arith, row_fits.taken)) (omega (arith, d.entered))).best
        by_place (no l) = let e : n ≡ 1 = omega arith in rw e started_one

    started_keyed : (n : ℕ) → 0 < n → n ≤ extent → Keyed A P t i 0 n (get_or keys n 0)
    started_keyed n p h = by_place (dec_lt 1 n) (dec_lt span n)
      where
        by_place : Dec (1 < n) → Dec (span < n) → Keyed A P t i 0 n (get_or keys n 0)
        by_place d (no l) = best_keyed modest i 0 n (get_or keys n 0) (started_final n p (omega arith))
        by_place (no d) (yes l) = let e : n ≡ 1 = omega arith in rw e (best_keyed modest i 0 1 (get_or keys 1 0) started_one)
        by_place (yes d) (yes l) =
            keyed_plain modest i (n - 1) n (get_or keys n 0) (omega arith)
            (omega (arith, s.plain n d l h, z.own_cost, rest_adds 1 (n - 1) n (omega arith) (omega arith) (omega arith) h))

    pub started_rowed : Rowed z 0 keys
    started_rowed = record { final = started_final; keyed = started_keyed }

  -- A repeat that is first in a stretch beyond the keys taken over is first in one of these too, where every item that can follow it ends
  -- among them; so where none of these begins with it, it is first in none beyond.
  module _ (keys : List ℕ) (final : (n : ℕ) → 0 < n → n ≤ span → BestKey A P (stretch t i n) (get_or keys n 0))
      (d n g v : ℕ) (pos : 0 < d) (far : span < n) (fits : n ≤ extent) (e : g * v ≡ d) (whole : Least A P usual (best_cost A P) (stretch t i n) g v)
      (near : d < span) (stop : get_or stops (i + d) 0 ≤ i + span) where
    rest_is : back d (stretch t i n) ≡ stretch t (i + d) (n - d)
    rest_is = back_piece i (i + d) d (n - d) n t refl (omega arith)

    behind : Second A P usual (stretch t i n) g v
    behind =
        second A P usual (stretch t i n) g v (piece modest i n) (fitting modest i n) (rw (e, rest_is) (fitting modest (i + d) (n - d)))
        (covering_power g v d e pos whole.candidate) whole (omega (arith, inside, siblings_piece i n z.run (omega (arith, inside, z.all))))

    ends_near : d + behind.size ≤ span
    ends_near =
        let s = z.stopping in
        let l : Least A P usual (best_cost A P) (stretch t (i + d) (n - d)) behind.count behind.width = rw (e, rest_is) at behind.least in
        let last = s.stop (i + d) (n - d) behind.count behind.width (omega arith) (omega arith) (omega (arith, inside, z.all)) (ends_solved d (n - d) n pos (omega arith) fits) l in
        ⊎_elim
        (λ q. omega (arith, s.one (i + d) (omega arith) (omega (arith, inside, z.all))))
        (λ q. omega arith)
        behind.covers

    first_is : Least A P usual (best_cost A P) (stretch t i (d + behind.size)) g v
    first_is =
        rw (front_front (d + behind.size) (n - (d + behind.size)) n (back i t) (omega (arith, ends_near))) at (rw e at behind.first)

    pub not_first : NoneBehind row d keys → ⊥
    not_first none =
        let c = d + behind.size in
        let some = behind.some in
        let b = final c (omega arith) ends_near in
        let y = least_unique A P usual (best_cost A P) (stretch t i c) b.count b.width g v (fitting modest i c) b.least first_is in
        let same : covered (get_or keys c 0) ≡ d = rw (best_covers modest i c (get_or keys c 0) b, y.0, y.1) e in
        none c (omega arith) ends_near same

  -- One solved stretch more, of d siblings.
  module _ (e d : ℕ) (before after : List ℕ) (next : suc e ≡ d) (more : d ≤ extent) (r : Rowed z e before)
      (s : Settled costs choices numbers tails row prices stops d (get_or same d 0) before after) where
    abbrev k : ℕ
    k = get_or before d 0

    abbrev IsPushed : Type 0
    IsPushed = Pushed costs choices numbers tails row stops d k before s.between

    abbrev IsWidened : Type 0
    IsWidened = Widened row prices (combined_digits k) d s.room s.between after

    best : BestKey A P (stretch t i d) k
    best = keyed_best modest i e d k (omega arith) (omega arith) (omega (arith, inside, z.all)) (r.keyed d (omega arith) more)

    -- The siblings that match.
    its_match : Matched A.marked (back i t) d (get_or same d 0)
    its_match = matched d (omega arith) (omega (arith, inside))

    covers : covered k ≡ best.count * best.width
    covers = best_covers modest i d k best

    its_cost : combined_digits k ≡ best_cost A P (stretch t i d)
    its_cost = best_combined modest i d k best

    -- The key of a repeat of it.
    key_is : (h : ℕ) → 2 ≤ h → h ≤ 1024
        → offer_key prices (combined_digits k) d h
        ≡ rank usual (of_repeat P h + best_cost A P (stretch t i d)) h d
    key_is h l l' =
        omega (
          arith,
          its_cost,
          z.priced.price_of h l l',
          rank_usual (of_repeat P h + best_cost A P (stretch t i d)) h d,
        )

    -- The key of what is left put behind it.
    module _ (n : ℕ) (some : d < n) (h : n ≤ extent) where
      follows : (g v : ℕ) → g * v ≡ d → Least A P usual (best_cost A P) (stretch t i d) g v
          → k + behind_key costs choices numbers tails m (i + d) (i + n)
          ≡ rank usual (best_cost A P (stretch t i d) + best_cost A P (front (n - d) (back (i + d) t))) g v
      follows g v f l =
          rw (best_is modest i d g v k best l, behind_adds d (n - d) n (omega arith) (omega arith) (omega arith) h)
          (first_key modest i (i + d) d (n - d) n g v refl (omega arith) (omega arith) f l)

    -- No key rises.
    push_lower : IsPushed → (n : ℕ) → get_or s.between n 0 ≤ get_or before n 0
    push_lower (push from a b c f p) n = p.lower n
    push_lower (pass f x) n = rw x (omega arith)
    push_lower (skip a b c x) n = rw x (omega arith)

    widen_lower : IsWidened → (n : ℕ) → get_or after n 0 ≤ get_or s.between n 0
    widen_lower (offer from a b c f p) n = p.lower n
    widen_lower (too_wide f x) n = rw x (omega arith)
    widen_lower (unlike f x) n = rw x (omega arith)

    lower : (n : ℕ) → get_or after n 0 ≤ get_or before n 0
    lower n = omega (arith, push_lower s.pushed n, widen_lower s.widened n)

    -- Those of up to `span` siblings stay.
    taken_still : (n : ℕ) → n ≤ span → get_or after n 0 ≡ get_or before n 0
    taken_still n l = widen_keeps row s.widened n l ∙ push_keeps row s.pushed n l

    final : (n : ℕ) → 0 < n → n ≤ span → BestKey A P (stretch t i n) (get_or after n 0)
    final n p l = rw (taken_still n l) (r.final n p l)

    -- Longer ones: each key is still that of a candidate,
    module _ (n : ℕ) (pos : 0 < n) (fits : n ≤ extent) where
      pair_before : Pair A P (stretch t i n) (get_or before n 0)
      pair_before =
          let x = r.keyed n pos fits in
          record { count = x.count; width = x.width; candidate = x.candidate; is_key = x.is_key }

      pair_between : IsPushed → Pair A P (stretch t i n) (get_or s.between n 0)
      pair_between (push from a b c f p) = ⊎_elim
          (λ x. rw x pair_before)
          (λ x.
          let some : d < n = omega arith in
          let g : best.count * best.width ≡ d = sym covers ∙ f in
          rw x.2
          (record {
            count = best.count;
            width = best.width;
            candidate = first_candidate modest i (i + d) d (n - d) n best.count best.width refl (omega arith) (omega arith) g best.least;
            is_key = follows n some fits best.count best.width g best.least
                ∙ rw (first_price modest i (i + d) d (n - d) n best.count best.width refl (omega arith) (omega arith) g best.least);
          }))
          (p.came n)
      pair_between (pass f x) = rw x pair_before
      pair_between (skip a b c x) = rw x pair_before

      pair_after : IsWidened → Pair A P (stretch t i n) (get_or after n 0)
      pair_after (offer from a b c f p) = ⊎_elim
          (λ x. rw x (pair_between s.pushed))
          (λ (x : Came prices (combined_digits k) d s.room from n (get_or after n 0)).
          let q = near_power x.count d (get_or same d 0) z_run (omega arith) (omega (arith, z.limited)) its_match (omega (arith, x.late)) (omega (arith, x.near, s.roomy.less)) in
          let y = reach q in
          record {
            count = x.count;
            width = d;
            candidate = whole_candidate modest i n x.count d q (omega (arith, x.covers));
            is_key = x.is_key ∙ key_is x.count (omega (arith, x.late)) (omega (arith, few, inside, x.covers))
                ∙ rw (whole_price modest i n x.count d q x.covers);
          })
          (p.came n)
        where
          z_run : Run A (back i t)
          z_run = run_back i z.run
      pair_after (too_wide f x) = rw x (pair_between s.pushed)
      pair_after (unlike f x) = rw x (pair_between s.pushed)

      -- and bounded by those that came with d.
      module _ (far : span < n) where
        -- The copies of a repeat that covers n siblings match, within the row's extent.
        in_room : (h : ℕ) → Power A (back i t) h d → h * d ≡ n → (h - 1) * d ≤ s.room
        in_room h q f =
            s.roomy.most ((h - 1) * d) (power_near h d (get_or same d 0) (run_back i z.run) its_match q)
            (omega (arith, copy_more (h - 1) h d (omega (arith, q.repeats.twice))))

        whole_now : (h w : ℕ) → Power A (back i t) h w → h * w ≡ n → w ≡ d
            → IsWidened
            → get_or after n 0 ≤ rank usual (of_repeat P h + best_cost A P (stretch t i d)) h d
        whole_now h w q f x (offer from a b c l p) =
            let y = reach q in
            let twice = q.repeats.twice in
            let late : from ≤ h = elim (dec_lt h from) [ yes u ↦ absurd (omega (arith, c h twice u, rw x at f)) | no u ↦ omega arith ] in
            let v = p.offered h late (in_room h (rw x at q) (rw x at f)) in
            omega (arith, rw (rw x at f) at v, key_is h twice (omega (arith, few, inside)))
        whole_now h w q f x (too_wide l y) = absurd (omega (arith, q.repeats.within, z.limited))
        whole_now h w q f x (unlike l y) =
            let v = in_room h (rw x at q) (rw x at f) in
            let u : 1 ≤ h - 1 = omega (arith, q.repeats.twice) in
            absurd (omega (arith, mul-le-mul_right d u))

        first_now : (g v : ℕ) → d < n → g * v ≡ d → Least A P usual (best_cost A P) (stretch t i d) g v
            → Least A P usual (best_cost A P) (stretch t i n) g v → IsPushed
            → get_or after n 0 ≤ rank usual (best_cost A P (stretch t i d) + best_cost A P (front (n - d) (back (i + d) t))) g v
        first_now g v some f l whole (push from a b c u p) =
            omega (arith, widen_lower s.widened n, p.pushed n (c n some far) fits, follows n some fits g v f l)
        first_now g v some f l whole (pass u x) =
            let y = least_unique A P usual (best_cost A P) (stretch t i d) best.count best.width g v (fitting modest i d) best.least l in
            absurd (u (covers ∙ rw (y.0, y.1) f))
        first_now g v some f l whole (skip near stop none x) =
            absurd (not_first before r.final d n g v (omega arith) far fits f whole near stop none)

      keyed : Dec (span < n) → Keyed A P t i d n (get_or after n 0)
      keyed (no l) = best_keyed modest i d n (get_or after n 0) (final n pos (omega arith))
      keyed (yes l) =
          let x = r.keyed n pos fits in
          let y = pair_after s.widened in
          record {
            count = y.count;
            width = y.width;
            candidate = y.candidate;
            is_key = y.is_key;
            plain = λ j c u v. omega (arith, lower n, x.plain j c u v);
            whole = λ h w q f u. elim (ℕ_discrete w d) [
              | yes v ↦ rw v (whole_now l h w q f v s.widened)
              | no v ↦ omega (arith, lower n, x.whole h w q f (omega arith))
            ];
            first = λ j c c' h w u v p q f a b whole. elim (ℕ_discrete c d) [
              | yes o ↦
                  let j' : j ≡ i + d = omega arith in
                  let m' : c' ≡ n - d = omega arith in
                  rw (o, j', m') (first_now l h w (omega arith) (f ∙ o) (rw o at b) whole s.pushed)
              | no o ↦ omega (arith, lower n, x.first j c c' h w u v p q f (omega arith) b whole)
            ];
          }

    pub settled_rowed : Rowed z d after
    settled_rowed = record { final = final; keyed = λ n p h. keyed n p h (dec_lt span n) }

    -- Its first item covers no more than its key says.
    pub its_cover : (h w : ℕ) → Least A P usual (best_cost A P) (stretch t i d) h w → h * w ≡ covered k
    its_cover h w l =
        let y = least_unique A P usual (best_cost A P) (stretch t i d) best.count best.width h w (fitting modest i d) best.least l in
        sym (covers ∙ rw (y.0, y.1))

  -- All stretches done: what the row enters in the table, and that it fits.
  module _ (keys : List ℕ) (r : Rowed z extent keys) (n : ℕ) (pos : 0 < n) (fits : n ≤ extent) where
    pub solved : BestKey A P (stretch t i n) (get_or keys n 0)
    solved = keyed_best modest i extent n (get_or keys n 0) pos (omega arith) (omega (arith, inside, z.all)) (r.keyed n pos fits)

    pub solved_entry : Entry A P (stretch t i n) (cost_digit (get_or keys n 0)) (choice_digits (get_or keys n 0))
    solved_entry = best_entry modest i n (get_or keys n 0) solved

    pub solved_low : get_or keys n 0 < stored_key
    solved_low = best_low modest i n (get_or keys n 0) solved

-- The digits of a key bound what it covers.
covered_low : (k : ℕ) → covered k ≤ top_cover
covered_low k =
    mul-le-mul {n₁ = count_digit k} {m₁ = width_digit k} {n₂ = 2047} {m₂ = 1023} (omega arith) (omega arith)

-- The loop of a row.
module _ {costs choices numbers : List ℕ} {row : Row} {prices same tails stops before : List ℕ} where
  pub advanced_none : KeysReady before → Advanced costs choices numbers row prices same tails stops 0 before before 1
  advanced_none k =
      record { ready = k; taken = λ n l. refl; rowed = λ z r. r; some = omega arith; low = omega arith; covers = λ z r n h w p l. absurd (omega arith) }

  pub advanced_more : (e d : ℕ) (now after : List ℕ) (long longer : ℕ) → suc e ≡ d → d ≤ row.extent
      → Advanced costs choices numbers row prices same tails stops e before now long
      → long ≤ longer → covered (get_or now d 0) ≤ longer → ((c : ℕ) → long ≤ c → covered (get_or now d 0) ≤ c → longer ≤ c)
      → KeysReady after → Settled costs choices numbers tails row prices stops d (get_or same d 0) now after
      → Advanced costs choices numbers row prices same tails stops d before after longer
  advanced_more e d now after long longer next more a less most least k s =
      record {
        ready = k;
        taken = λ n l. still n l s.pushed s.widened ∙ a.taken n l;
        rowed = λ z r. settled_rowed z e d now after next more (a.rowed z r) s;
        some = omega (arith, a.some);
        low = least top_cover a.low (covered_low (get_or now d 0));
        covers = λ z r n h w p l y. elim (ℕ_discrete n d) [
          | yes q ↦ omega (arith, its_cover z e d now after next more (a.rowed z r) s h w (rw q at y))
          | no q ↦ omega (arith, a.covers z r n h w p (omega arith) y)
        ];
      }
    where
      still : (n : ℕ) → n ≤ row.span → Pushed costs choices numbers tails row stops d (get_or now d 0) now s.between
          → Widened row prices (combined_digits (get_or now d 0)) d s.room s.between after → get_or after n 0 ≡ get_or now n 0
      still n l p w = widen_keeps row w n l ∙ push_keeps row p n l
