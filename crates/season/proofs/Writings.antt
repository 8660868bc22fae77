-- The bytes of a cheapest fold, item by item, as the blocks' pairs say.
use mathlib.Core.Path.{◌≡◌, refl, sym, ap, ◌∙◌}
use mathlib.Core.Bool.{Bool, true, false, false≢true}
use mathlib.Core.List.{List, [], ◌∷◌, ◌++◌, append_assoc}
use Prim.Native.Nat.{ℕ, zero, suc, ◌+◌, ◌-◌, ◌*◌, ◌<◌, ◌≤◌}
use native.Mathlib.Omega.{arith}
use lib.ListN.{length, length-append, get_or, set}
use lib.Seq.{sets}
use borrow.Author.Tests.{ne_eqb}
use Rattle.format.specs.Limits.{Prices}
use Rattle.format.specs.Forest.{Forest, end, step, repeat, join, siblings, bytes, form_in, opening, opening_size, Allowed}
use Rattle.format.proofs.Forests.{opening_append}
use Rattle.format.proofs.Bridge.{opening_length}
use Rattle.optimum.specs.Cheapest.{Run, front, back, Power, Candidate, plain, power, build, cheapest}
use Rattle.optimum.proofs.Cut.{front_add, front_front, front_whole, back_back, back_piece, siblings_back, siblings_piece, run_back, run_front}
use Rattle.optimum.proofs.Powers.{reach}
use Rattle.optimum.proofs.Cheapest.{least_builds, is_cheapest, optimal_end}
use Rattle.blocks.specs.declared.keys.Key.{Key}
use Rattle.blocks.specs.Keys.{bases, slot, tail_slot, both_in, pair_in, key_in}
use Rattle.blocks.specs.Solved.{Best}
use Rattle.blocks.proofs.Flats.{flat_run, flat_node, flat_size}
use Rattle.blocks.proofs.Bests.{spanned}
use Rattle.tails.proofs.Offers.{read_pair}
use Rattle.put.proofs.Along.{Along, along_none, along_end, along_more, along_byte, all_written}
use Rattle.season.specs.Writing.{left_slot, count_of, width_of, covers, StepsReady, steps_of, fold_bytes, ItemReady, item_bytes, StepsFit, ItemFits, StepsWritten, ItemWritten}

-- A repeat that is built.
build_power : (go : Forest → Forest) (t : Forest) (h w : ℕ) → 2 ≤ h → build go t h w ≡ repeat h w (go (front w t)) (go (back (h * w) t))
unfolding build
build_power go t zero w l = absurd (omega arith)
build_power go t (suc h) w l = refl

module _ {run work : List ℕ} {tail : Bool} {i stop : ℕ} (z : StepsReady run work tail i stop) where
  abbrev A : Allowed
  A = z.allowed

  abbrev P : Prices
  P = z.prices

  abbrev t : Forest
  t = z.tree

  abbrev T : Forest
  T = steps_of z

  size : siblings T ≡ stop - i
  size = siblings_piece i (stop - i) (flat_run A t z.modest.flat) (omega (arith, z.ahead, z.within))

  -- The key of the steps.
  best : Best A P T (both_in work (slot i (left_slot tail (stop - i)))) (pair_in work (slot i (left_slot tail (stop - i))))
  best = by_kind tail refl
    where
      by_kind : (b : Bool) → tail ≡ b → Best A P T (both_in work (slot i (left_slot tail (stop - i)))) (pair_in work (slot i (left_slot tail (stop - i))))
      by_kind true e =
          let s = (z.solved i (omega arith) (omega (arith, z.ahead, z.within))).tail in
          let r = flat_run A t z.modest.flat in
          let w : T ≡ back i t =
          front_whole (stop - i) (back i t) (run_back i r).plain (omega (arith, siblings_back i t r.plain (omega (arith, z.ahead, z.within)), z.ends e)) in
          let at : left_slot tail (stop - i) ≡ tail_slot = ap (λ (b : Bool). left_slot b (stop - i)) e in
          rw (at, w) s
      by_kind false e =
          let at : left_slot tail (stop - i) ≡ stop - i = ap (λ (b : Bool). left_slot b (stop - i)) e in
          rw at ((z.solved i (omega arith) (omega (arith, z.ahead, z.within))).stretch (stop - i) (omega (arith, z.short e)) (omega (arith, z.ahead, z.within)))

  flat_steps : Run A T
  flat_steps = run_front (stop - i) (run_back i (flat_run A t z.modest.flat))

  few : siblings T < 65536
  few = omega (arith, size, z.modest.few, z.within)

  built : cheapest A P T ≡ build (cheapest A P) T best.count best.width
  built = sym (is_cheapest A P (least_builds A P bases T best.count best.width flat_steps (spanned z.modest T few) best.least))

  -- What follows the first steps.
  rest_ready : (k : ℕ) → k ≤ stop - i → StepsReady run work tail (i + k) stop
  rest_ready k l =
      record {
        allowed = A;
        prices = P;
        tree = t;
        modest = z.modest;
        stands = z.stands;
        solved = z.solved;
        room = z.room;
        ahead = omega (arith, z.ahead);
        within = z.within;
        ends = z.ends;
        short = λ e. omega (arith, z.short e);
      }

  body_ready : (w : ℕ) → w ≤ stop - i → w ≤ A.widest → StepsReady run work false i (i + w)
  body_ready w l narrow =
      record {
        allowed = A;
        prices = P;
        tree = t;
        modest = z.modest;
        stands = z.stands;
        solved = z.solved;
        room = z.room;
        ahead = omega arith;
        within = omega (arith, z.within);
        ends = λ e. absurd (false≢true e);
        short = λ e. omega arith;
      }

  -- The first item by the pair, and what is behind it.
  pub record Split (pair : ℕ) : Type 0 where
    pub item : ItemReady run work i pair
    pub covered : (0 < covers pair) × (covers pair ≤ stop - i)
    pub small : pair < 4194304
    pub half : 2 * width_of pair ≤ covers pair
    pub rest : StepsReady run work tail (i + covers pair) stop
    pub spelled : fold_bytes z ≡ item_bytes item ++ fold_bytes rest

  module _ (some : i < stop) (pair : ℕ) (looked : pair ≡ pair_in work (slot i (left_slot tail (stop - i)))) where
    item_is : ItemReady run work i pair
    item_is = record { tail = tail; end = stop; ready = z; some = some; is_pair = looked }

    -- The rest, as the fold of what follows says it.
    rest_bytes : (k m : ℕ) → k + m ≡ stop - i → back k T ≡ front (stop - (i + k)) (back (i + k) t)
    rest_bytes k m e =
        let n : stop - (i + k) ≡ m = omega arith in
        rw n (back_piece i (i + k) k m (stop - i) t refl e)

    split_plain : best.count ≡ 0 → best.width ≡ 0 → Split pair
    unfolding item_is rest_ready build join form_in
    split_plain c w =
        let e : pair ≡ 0 = looked ∙ best.is_pair ∙ rw (c, w) in
        let l = get_or (bytes t) (2 * i + 1) 0 in
        let k : covers pair ≡ 1 = rw e in
        let label : get_or run (2 * i + 1) 0 ≡ l = ap (λ (s : List ℕ). get_or s (2 * i + 1) 0) z.stands in
        let first : front 1 (back i t) ≡ step l end = flat_node i t z.modest.flat (omega (arith, z.within)) in
        let head : T ≡ step l (front (stop - i - 1) (back (i + 1) t)) =
        front_add 1 (stop - i - 1) (stop - i) (back i t) (omega arith) ∙ rw (first, back_back i 1 (i + 1) t refl) in
        let left : stop - (i + 1) ≡ stop - i - 1 = omega arith in
        let folded : cheapest A P T ≡ step l (cheapest A P (front (stop - i - 1) (back (i + 1) t))) = built ∙ rw (c, w, head) in
        record {
          item = item_is;
          covered = (omega (arith, k), omega (arith, k));
          small = omega arith;
          half = omega (arith, k);
          rest = rest_ready (covers pair) (omega (arith, k));
          spelled = ap bytes folded ∙ rw (e, label, left);
        }

    split_power : Power A T best.count best.width → Split pair
    unfolding item_is rest_ready form_in
    split_power p =
        let h = best.count in
        let w = best.width in
        let r = reach p in
        let s = spanned z.modest T few in
        let hl = s.count h w (power p) in
        let wl = s.width h w (power p) in
        let e : pair ≡ h * 64 + w = looked ∙ best.is_pair in
        let ch : count_of pair ≡ h = omega arith in
        let cw : width_of pair ≡ w = omega arith in
        let unequal = ne_eqb pair 0 (λ q. omega (arith, p.repeats.twice)) in
        let cover : covers pair ≡ h * w = rw (unequal, ch, cw) in
        let inside : h * w ≤ stop - i = omega (arith, r.covers, size) in
        let body : front w T ≡ front w (back i t) = front_front w (stop - i - w) (stop - i) (back i t) (omega (arith, r.width)) in
        let folded : cheapest A P T ≡ repeat h w (cheapest A P (front w (back i t))) (cheapest A P (front (stop - (i + h * w)) (back (i + h * w) t))) =
        built ∙ build_power (cheapest A P) T h w p.repeats.twice ∙ rw (body, rest_bytes (h * w) (stop - i - h * w) (omega arith)) in
        record {
          item = item_is;
          covered = (omega (arith, cover, r.some, r.width), omega (arith, cover));
          small = omega arith;
          half = omega (arith, cover, cw, r.width);
          rest = rest_ready (covers pair) (omega (arith, cover));
          spelled =
              ap bytes folded
              ∙ rw (unequal, ch, cw)
              (sym (opening_append false h w (bytes (cheapest A P (front w (back i t))) ++ 0x21 ∷ []) (bytes (cheapest A P (front (stop - (i + h * w)) (back (i + h * w) t))))
              ∙ ap (opening false h w) (append_assoc (bytes (cheapest A P (front w (back i t)))) (0x21 ∷ []) (bytes (cheapest A P (front (stop - (i + h * w)) (back (i + h * w) t)))))));
        }

    pub split : Split pair
    split = by_candidate best.count best.width refl refl best.least.candidate
      where
        by_candidate : (h w : ℕ) → best.count ≡ h → best.width ≡ w → Candidate A T h w → Split pair
        by_candidate h w a b plain = split_plain a b
        by_candidate h w a b (power p) = split_power (rw (a, b) p)

-- Nothing is left where no step is.
fold_none : {run work : List ℕ} {tail : Bool} {i stop : ℕ} (z : StepsReady run work tail i stop) → stop ≤ i → fold_bytes z ≡ []
unfolding front form_in
fold_none {i = i} {stop} z l =
    let none : stop - i ≡ 0 = omega arith in
    rw (none, ← is_cheapest z.allowed z.prices (optimal_end z.allowed z.prices))

-- What is left of some steps begins at step i, and its fold is to be written from the place p on.
pub record Left {run work : List ℕ} {tail : Bool} {from stop : ℕ} (z : StepsReady run work tail from stop) (to : ℕ) (before : List ℕ) (i p : ℕ) (now : List ℕ) : Type 0 where
  pub rest : StepsReady run work tail i stop
  pub along : Along (fold_bytes z) (fold_bytes rest) to before p now

pub record Putting (run work : List ℕ) (tail : Bool) (from stop to : ℕ) (before : List ℕ) (i p : ℕ) (now : List ℕ) : Type 0 where
  pub ahead : from ≤ i
  pub within : i ≤ stop
  pub left : (z : StepsReady run work tail from stop) → Left z to before i p now

module _ {run work : List ℕ} {tail : Bool} {from stop to : ℕ} (before : List ℕ) (m : StepsFit run work tail from stop to) where
  pub putting_none : Putting run work tail from stop to before from to before
  putting_none =
      record { ahead = omega arith; within = m.ready.ahead; left = λ z. record { rest = z; along = along_none (fold_bytes z) to before } }

  module _ {i p : ℕ} {now : List ℕ} (x : Putting run work tail from stop to before i p now) where
    pub putting_all : stop ≤ i → StepsWritten run work tail from stop to before now p
    putting_all h = all_written (λ z. let l = x.left z in rw (fold_none l.rest h) at l.along)

    -- The slot of the next step is in the work.
    pub next_held : i < stop → (i < 65536) × (left_slot tail (stop - i) < 256) × (slot i (left_slot tail (stop - i)) + 2 < length work)
    next_held l = by_kind tail refl
      where
        z : StepsReady run work tail i stop
        z = (x.left m.ready).rest

        by_kind : (b : Bool) → tail ≡ b → (i < 65536) × (left_slot tail (stop - i) < 256) × (slot i (left_slot tail (stop - i)) + 2 < length work)
        by_kind true e =
            let at : left_slot tail (stop - i) ≡ tail_slot = ap (λ (b : Bool). left_slot b (stop - i)) e in
            (omega (arith, z.within, z.modest.few), omega arith, omega (arith, z.room, z.within))
        by_kind false e =
            let at : left_slot tail (stop - i) ≡ stop - i = ap (λ (b : Bool). left_slot b (stop - i)) e in (
              omega (arith, z.within, z.modest.few),
              omega (arith, z.short e, z.modest.narrow),
              omega (arith, z.room, z.within, z.short e, z.modest.narrow),
            )

    -- The item of the next step, by the pair of the key that is read in its slot.
    module _ (more : i < stop) {k : Key} {e s : ℕ} (read : k ≡ key_in work e) (at_slot : e ≡ slot i s) (of_left : s ≡ left_slot tail (stop - i)) where
      abbrev pair : ℕ
      pair = k.pair

      looked : pair ≡ pair_in work (slot i (left_slot tail (stop - i)))
      looked = read_pair work (slot i (left_slot tail (stop - i))) read (at_slot ∙ ap (slot i) of_left)

      pub next : Split (x.left m.ready).rest pair
      next = split (x.left m.ready).rest more pair looked

      pub next_fits : ItemFits run work i pair p
      next_fits =
          let y = next in
          let l = x.left m.ready in
          record {
            ready = y.item;
            fits = omega (arith, along_end l.along, m.fits, ap length y.spelled, length-append (item_bytes y.item) (fold_bytes y.rest));
          }

      pub putting_more : (r : ℕ) (now' : List ℕ) → ItemWritten run work i pair p now now' r
          → Putting run work tail from stop to before (i + covers pair) r now'
      putting_more r now' w =
          record {
            ahead = omega (arith, x.ahead);
            within = omega (arith, next.covered.1);
            left = λ z.
                let l = x.left z in
                let y = split l.rest more pair looked in
                record {
                  rest = y.rest;
                  along = along_more l.along (item_bytes y.item) (fold_bytes y.rest) r now' y.spelled (w.is_end y.item) (w.written y.item);
                };
          }

-- An item: where its label stands, and what a repeat's body rests on.
module _ {run work : List ℕ} {i pair : ℕ} (z : ItemReady run work i pair) where
  pub item_label : 2 * i + 1 < length run
  item_label =
      let r = z.ready in
      omega (arith, ap length r.stands, flat_size r.tree r.modest.flat, z.some, r.within)

  pub record Body : Type 0 where
    pub ready : StepsReady run work false i (i + width_of pair)
    pub same : fold_bytes ready ≡ bytes (cheapest z.ready.allowed z.ready.prices (front (width_of pair) (back i z.ready.tree)))
    pub count : count_of pair < 65536

  pub item_body : (pair ≡ 0 → ⊥) → Body
  unfolding body_ready
  item_body other = by_candidate (best r).count (best r).width refl refl (best r).least.candidate
    where
      r : StepsReady run work z.tail i z.end
      r = z.ready

      by_candidate : (h w : ℕ) → (best r).count ≡ h → (best r).width ≡ w → Candidate r.allowed (steps_of r) h w → Body
      by_candidate h w a b plain = absurd (other (z.is_pair ∙ (best r).is_pair ∙ rw (a, b)))
      by_candidate h w a b (power p) =
          let s = spanned r.modest (steps_of r) (few r) in
          let hl = s.count h w (power p) in
          let wl = s.width h w (power p) in
          let e : pair ≡ h * 64 + w = z.is_pair ∙ (best r).is_pair ∙ rw (a, b) in
          let cw : width_of pair ≡ w = omega arith in
          let c = reach p in
          let left : i + width_of pair - i ≡ width_of pair = omega arith in
          record {
            ready = body_ready r (width_of pair) (omega (arith, c.covers, c.width, size r)) (omega (arith, p.repeats.within));
            same = rw left;
            count = omega arith;
          }

  -- The bytes of a step, one by one; and of a repeat: its open, its body, its close.
  module _ (e : pair ≡ 0) where
    pub step_bytes : item_bytes z ≡ 0x10 ∷ get_or run (2 * i + 1) 0 ∷ []
    step_bytes = rw e

  module _ (other : pair ≡ 0 → ⊥) where
    pub repeat_bytes : item_bytes z ≡ opening false (count_of pair) (width_of pair) [] ++ (fold_bytes (item_body other).ready ++ 0x21 ∷ [])
    repeat_bytes =
        rw (ne_eqb pair 0 other, (item_body other).same)
        (sym (opening_append false (count_of pair) (width_of pair) []
        (bytes (cheapest z.ready.allowed z.ready.prices (front (width_of pair) (back i z.ready.tree))) ++ 0x21 ∷ [])))

    pub repeat_size : length (item_bytes z) ≡ opening_size false (count_of pair) (width_of pair) + length (fold_bytes (item_body other).ready) + 1
    repeat_size =
        let o = opening false (count_of pair) (width_of pair) [] in
        let b = fold_bytes (item_body other).ready in
        omega (
          arith,
          ap length repeat_bytes,
          length-append o (b ++ 0x21 ∷ []),
          length-append b (0x21 ∷ []),
          opening_length false (count_of pair) (width_of pair) [],
        )

pub step_written : {run work : List ℕ} {i pair to : ℕ} (before one two : List ℕ) → pair ≡ 0 → one ≡ set before to 0x10
    → two ≡ set one (to + 1) (get_or run (2 * i + 1) 0) → ItemWritten run work i pair to before two (to + 2)
step_written {run} {work} {i} {pair} {to} before one two e f g =
    let l = get_or run (2 * i + 1) 0 in
    let again : to + 1 + 1 ≡ to + 2 = omega arith in
    all_written (λ z. rw again at (along_byte (along_byte (along_none (item_bytes z) to before) 0x10 (l ∷ []) one (step_bytes z e) f) l [] two refl g))

pub repeat_written : {run work : List ℕ} {i pair to : ℕ} (before one two three : List ℕ) (inside p : ℕ) → (pair ≡ 0 → ⊥)
    → inside ≡ to + opening_size false (count_of pair) (width_of pair) → one ≡ sets before to (opening false (count_of pair) (width_of pair) [])
    → StepsWritten run work false i (i + width_of pair) inside one two p → three ≡ set two p 0x21
    → ItemWritten run work i pair to before three (p + 1)
repeat_written {run} {work} {i} {pair} {to} before one two three inside p other e f w g =
    all_written (λ z.
    let o = opening false (count_of pair) (width_of pair) [] in
    let y = (item_body z other).ready in
    let b = fold_bytes y in
    let first = along_more (along_none (item_bytes z) to before) o (b ++ 0x21 ∷ []) inside one (repeat_bytes z other)
    (omega (arith, opening_length false (count_of pair) (width_of pair) [])) f in
    let second = along_more first b (0x21 ∷ []) p two refl (w.is_end y) (w.written y) in
    along_byte second 0x21 [] three refl g)
