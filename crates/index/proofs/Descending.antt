-- The way down a fold: from a place on, command by command, which offsets unrolling writes nodes from, and how a position among
-- them moves with the place.
use mathlib.Core.Path.{◌≡◌, refl, sym, ap, ◌∙◌}
use mathlib.Core.List.{List, [], ◌∷◌, ◌++◌, map, map-append, append_assoc, append-nil}
use mathlib.Core.Logic.{◌≢◌, inr}
use mathlib.Core.Option.{Option, some}
use Prim.Native.Nat.{ℕ, zero, suc, ◌+◌, ◌*◌, ◌-◌, ◌%◌, ◌≤◌, ◌<◌}
use native.Mathlib.Nat.{mul-le-mul, mod-lt}
use native.Mathlib.Omega.{arith}
use lib.ListN.{length, length-append, length-map, get_or, get_elem?}
use Rattle.format.specs.Limits.{limits}
use Rattle.format.specs.Forest.{Forest, end, step, group, repeat, nodes, form_in, bytes}
use Rattle.format.specs.inner.Standing.{FormAt, SequenceAt}
use Rattle.format.proofs.Standing.{step_there, step_byte, step_behind, group_there, group_byte, group_inside, group_close, group_behind, repeat_there, repeat_byte, repeat_count, repeat_inside, repeat_behind}
use Rattle.format.specs.Machine.{times}
use Rattle.format.proofs.Bridge.{length_times}
use Rattle.index.specs.Nodes.{Written, writes}
use Rattle.index.specs.inner.Passing.{SequenceFrom, NodeIn, PassedOver}
use Rattle.index.specs.declared.pass.Spot.{Spot}
use Rattle.index.proofs.Lists.{nth_front, nth_back, nth_times, map_times}
use Rattle.index.proofs.Nodes.{length_writes}
use Rattle.index.proofs.Passing.{body_of}

-- The offsets that unrolling writes the nodes of a sequence from.
abbrev pub offsets_in : ℕ → Forest → List ℕ
offsets_in p f = map (λ (w : Written). w.offset) (writes p f)

length_offsets : (p : ℕ) (f : Forest) → length (offsets_in p f) ≡ nodes f
length_offsets p f = length-map (writes p f) (λ (w : Written). w.offset) ∙ length_writes p f

offsets_end : (p : ℕ) → offsets_in p end ≡ []
unfolding writes
offsets_end p = refl

offsets_step : (p l : ℕ) (f : Forest) → offsets_in p (step l f) ≡ p ∷ offsets_in (p + 2) f
unfolding writes
offsets_step p l f = refl

offsets_group : (p l : ℕ) (b f : Forest)
    → offsets_in p (group l b f) ≡ p ∷ offsets_in (p + 2) b ++ offsets_in (p + 3 + length (bytes b)) f
unfolding writes
offsets_group p l b f =
    ap (λ (os : List ℕ). p ∷ os) (map-append (λ (w : Written). w.offset) (writes (p + 2) b) (writes (p + 3 + length (bytes b)) f))

offsets_repeat : (p h w : ℕ) (b f : Forest)
    → offsets_in p (repeat h w b f) ≡ times h (offsets_in (p + 5) b) ++ offsets_in (p + 6 + length (bytes b)) f
unfolding writes
offsets_repeat p h w b f =
    map-append (λ (w : Written). w.offset) (times h (writes (p + 5) b)) (writes (p + 6 + length (bytes b)) f)
    ∙ rw (map_times (λ (w : Written). w.offset) h (writes (p + 5) b))

-- A repeat that the way down meets: its body stands behind the operands, and its nodes pass no limit.
pub record Body (s : List ℕ) (p h : ℕ) (b : Forest) : Type 0 where
  pub operand : get_or s (p + 1) 0 * 256 + get_or s (p + 1 + 1) 0 ≡ h
  pub there : p + 5 + length (bytes b) < length s
  pub twice : 2 ≤ h
  pub stands : SequenceAt s (p + 5) b
  pub few : h * nodes b ≤ limits.nodes

-- From offset p on, nodes are written from these offsets, in this order, and perhaps from more: a node from its own command, a
-- close from none, a repeat from those of its body count times.
pub data Ahead (s : List ℕ) : ℕ → List ℕ → Type 0 where
  no_more : (p : ℕ) → Ahead s p []
  node_next : (p : ℕ) (os : List ℕ) → p + 2 ≤ length s → get_or s p 0 ≢ 0x12 → get_or s p 0 ≢ 0x20 → Ahead s (p + 2) os → Ahead s p (p ∷ os)
  close_next : (p : ℕ) (os : List ℕ) → p < length s → get_or s p 0 ≡ 0x12 → Ahead s (p + 1) os → Ahead s p os
  repeat_next : (p h : ℕ) (b : Forest) (os : List ℕ) → get_or s p 0 ≡ 0x20 → Body s p h b → Ahead s (p + 6 + length (bytes b)) os
      → Ahead s p (times h (offsets_in (p + 5) b) ++ os)

module _ {s : List ℕ} where
  -- Those of a sequence that stands at p, and then those behind it.
  ahead_of : (f : Forest) (p q : ℕ) (rest os : List ℕ) → FormAt s p f rest → nodes f ≤ limits.nodes → q ≡ p + length (bytes f)
      → Ahead s q os → Ahead s p (offsets_in p f ++ os)
  unfolding nodes form_in
  ahead_of end p q rest os z few e a = let same : q ≡ p = omega arith in rw (offsets_end p) (rw same at a)
  ahead_of (step l f) p q rest os z few e a =
      let byte = step_byte z in
      rw (offsets_step p l f)
      (node_next p (offsets_in (p + 2) f ++ os) (step_there z) (omega (arith, byte)) (omega (arith, byte))
      (ahead_of f (p + 2) q rest os (step_behind z) (omega arith) (omega arith) a))
  ahead_of (group l b f) p q rest os z few e a =
      let byte = group_byte z in
      let c = p + 2 + length (bytes b) in
      let d = p + 3 + length (bytes b) in
      let behind : Ahead s d (offsets_in d f ++ os) =
      ahead_of f d q rest os (group_behind z d refl) (omega arith) (omega (arith, length-append (bytes b) (0x12 ∷ bytes f))) a in
      let close : Ahead s c (offsets_in d f ++ os) =
      close_next c (offsets_in d f ++ os) (group_there z) (group_close z c refl) (let at : c + 1 ≡ d = omega arith in rw at behind) in
      rw (offsets_group p l b f, append_assoc (offsets_in (p + 2) b) (offsets_in d f) os)
      (node_next p (offsets_in (p + 2) b ++ (offsets_in d f ++ os)) (omega (arith, group_there z)) (omega (arith, byte)) (omega (arith, byte))
      (ahead_of b (p + 2) c (0x12 ∷ bytes f ++ rest) (offsets_in d f ++ os) (group_inside z) (omega arith) refl close))
  ahead_of (repeat h w b f) p q rest os z few e a =
      let d = p + 6 + length (bytes b) in
      let behind : Ahead s d (offsets_in d f ++ os) =
      ahead_of f d q rest os (repeat_behind z d refl) (omega arith) (omega (arith, length-append (bytes b) (0x21 ∷ bytes f))) a in
      let body : Body s p h b =
      record {
        operand = repeat_count z;
        there = repeat_there z;
        twice = z.sound.0.twice;
        stands = record { rest = 0x21 ∷ bytes f ++ rest; stands = repeat_inside z; ends = inr refl };
        few = omega arith;
      } in
      rw (offsets_repeat p h w b f, append_assoc (times h (offsets_in (p + 5) b)) (offsets_in d f) os)
      (repeat_next p h b (offsets_in d f ++ os) (repeat_byte z) body behind)

  -- Those of a sequence and no more.
  ahead_in : (f : Forest) (p : ℕ) (rest : List ℕ) → FormAt s p f rest → nodes f ≤ limits.nodes → Ahead s p (offsets_in p f)
  ahead_in f p rest z few =
      rw (append-nil (offsets_in p f)) at (ahead_of f p (p + length (bytes f)) rest [] z few refl (no_more (p + length (bytes f))))

-- From offset p on, the node n nodes further on is written from the offset `from`.
pub record Heading (s : List ℕ) (p n : ℕ) (from : Option ℕ) : Type 0 where
  pub offsets : List ℕ
  pub ahead : Ahead s p offsets
  pub below : n < length offsets
  pub written_from : get_elem? offsets n ≡ from

abbrev pub offset_at : ℕ → (position : ℕ) → Forest → Option ℕ
offset_at p n f = get_elem? (offsets_in p f) n

pub heading_in : {s : List ℕ} {p n : ℕ} {f : Forest} → NodeIn s p n f → Heading s p n (offset_at p n f)
heading_in {s} {p} {n} {f} z =
    record {
      offsets = offsets_in p f;
      ahead = ahead_in f p z.stands.rest z.stands.stands z.few;
      below = omega (arith, z.below, length_offsets p f);
      written_from = refl;
    }

-- A node: its own offset, and then the others.
record AtNode (s : List ℕ) (p : ℕ) (os : List ℕ) : Type 0 where
  there : p + 2 ≤ length s
  others : List ℕ
  are : os ≡ p ∷ others
  ahead : Ahead s (p + 2) others

-- A repeat: those of its body count times, and then the others.
pub record AtRepeat (s : List ℕ) (p : ℕ) (os : List ℕ) : Type 0 where
  pub count : ℕ
  pub body : Forest
  pub stands : Body s p count body
  pub others : List ℕ
  pub are : os ≡ times count (offsets_in (p + 5) body) ++ others
  pub ahead : Ahead s (p + 6 + length (bytes body)) others

-- What stands at the place, by its byte.
module _ {s : List ℕ} {p : ℕ} where
  ahead_there : {os : List ℕ} {n : ℕ} → Ahead s p os → n < length os → p < length s
  ahead_there (no_more p) e = absurd (omega arith)
  ahead_there (node_next p os there g h a) e = omega arith
  ahead_there (close_next p os there g a) e = there
  ahead_there (repeat_next p h b os byte body a) e = omega (arith, body.there)

  ahead_close : {os : List ℕ} {n : ℕ} → Ahead s p os → n < length os → get_or s p 0 ≡ 0x12 → Ahead s (p + 1) os
  ahead_close (no_more p) e byte = absurd (omega arith)
  ahead_close (node_next p os there g h a) e byte = absurd (g byte)
  ahead_close (close_next p os there g a) e byte = a
  ahead_close (repeat_next p h b os g body a) e byte = absurd (omega arith)

  ahead_node : {os : List ℕ} {n : ℕ} → Ahead s p os → n < length os → get_or s p 0 ≢ 0x12 → get_or s p 0 ≢ 0x20 → AtNode s p os
  ahead_node (no_more p) e c d = absurd (omega arith)
  ahead_node (node_next p os there g h a) e c d = record { there = there; others = os; are = refl; ahead = a }
  ahead_node (close_next p os there g a) e c d = absurd (c g)
  ahead_node (repeat_next p h b os g body a) e c d = absurd (d g)

  ahead_repeat : {os : List ℕ} {n : ℕ} → Ahead s p os → n < length os → get_or s p 0 ≡ 0x20 → AtRepeat s p os
  ahead_repeat (no_more p) e byte = absurd (omega arith)
  ahead_repeat (node_next p os there g h a) e byte = absurd (h byte)
  ahead_repeat (close_next p os there g a) e byte = absurd (omega arith)
  ahead_repeat (repeat_next p h b os g body a) e byte = record { count = h; body = b; stands = body; others = os; are = refl; ahead = a }

module _ {s : List ℕ} {p n : ℕ} {from : Option ℕ} (h : Heading s p n from) where
  pub heading_there : p < length s
  heading_there = ahead_there h.ahead h.below

  -- A close is passed.
  pub heading_close : get_or s p 0 ≡ 0x12 → Heading s (p + 1) n from
  heading_close e =
      record { offsets = h.offsets; ahead = ahead_close h.ahead h.below e; below = h.below; written_from = h.written_from }

  -- A node is the one looked for, or takes one off.
  module _ (g : get_or s p 0 ≢ 0x12) (k : get_or s p 0 ≢ 0x20) where
    at : AtNode s p h.offsets
    at = ahead_node h.ahead h.below g k

    pub node_there : p + 2 ≤ length s
    node_there = at.there

    pub node_found : n ≡ 0 → from ≡ some p
    node_found e = sym h.written_from ∙ ap (get_elem? h.offsets) e ∙ ap (λ (l : List ℕ). get_elem? l 0) at.are

    pub node_passed : n ≢ 0 → Heading s (p + 2) (n - 1) from
    node_passed e =
        record {
          offsets = at.others;
          ahead = at.ahead;
          below = omega (arith, h.below, ap length at.are);
          written_from =
              sym (nth_back (p ∷ []) at.others (n - 1) n (omega arith)) ∙ ap (λ (l : List ℕ). get_elem? l n) (sym at.are) ∙ h.written_from;
        }

  module _ (e : get_or s p 0 ≡ 0x20) where
    pub its_repeat : AtRepeat s p h.offsets
    its_repeat = ahead_repeat h.ahead h.below e

    abbrev one : List ℕ
    one = offsets_in (p + 5) its_repeat.body

    all : length (times its_repeat.count one) ≡ its_repeat.count * nodes its_repeat.body
    all = length_times its_repeat.count one ∙ ap (λ (m : ℕ). its_repeat.count * m) (length_offsets (p + 5) its_repeat.body)

    body_few : its_repeat.count * nodes its_repeat.body ≤ limits.nodes
    body_few = its_repeat.stands.few

    pub operands_there : p + 5 < length s
    operands_there = omega (arith, its_repeat.stands.there)

    pub body_from : SequenceFrom s (body_of p) its_repeat.body
    body_from =
        let one_pass : 1 * nodes its_repeat.body ≤ its_repeat.count * nodes its_repeat.body = mul-le-mul (omega (arith, its_repeat.stands.twice)) (omega arith) in
        record { stands = its_repeat.stands.stands; few = omega (arith, body_few) }

    -- What the walk over one pass of the body found, and the count that was read.
    module _ {r : Spot} (pass : (b : Forest) → SequenceFrom s (body_of p) b → PassedOver (body_of p) b r)
        {count : ℕ} (read : count ≡ get_or s (p + 1) 0 * 256 + get_or s (p + 1 + 1) 0) where
      one_pass : r.nodes ≡ nodes its_repeat.body
      one_pass = (pass its_repeat.body body_from).counted ∙ omega arith

      passes : count * r.nodes ≡ its_repeat.count * nodes its_repeat.body
      passes = rw (one_pass, read ∙ its_repeat.stands.operand)

      pub passes_few : count * r.nodes ≤ limits.nodes
      passes_few = omega (arith, passes, body_few)

      pub behind_there : r.at + 1 ≤ length s
      behind_there = omega (arith, (pass its_repeat.body body_from).passed, its_repeat.stands.there)

      pub behind_further : p < r.at + 1
      behind_further = omega (arith, (pass its_repeat.body body_from).passed)

      pub pass_some : n < count * r.nodes → 0 < r.nodes
      pass_some f = go r.nodes f
        where
          go : (m : ℕ) → n < count * m → 0 < m
          go zero f = absurd (omega arith)
          go (suc m) f = omega arith

      -- The position is in the repeat: it is entered with the position in one pass.
      pub repeat_entered : n < count * r.nodes → Heading s (p + 5) (n % r.nodes) from
      repeat_entered f =
          let inside : n < its_repeat.count * length one = rw (length_offsets (p + 5) its_repeat.body) (omega (arith, f, passes)) in
          record {
            offsets = one;
            ahead = ahead_in its_repeat.body (p + 5) its_repeat.stands.stands.rest its_repeat.stands.stands.stands (omega (arith, body_from.few));
            below = rw (length_offsets (p + 5) its_repeat.body, ← one_pass) (mod-lt n (pass_some f));
            written_from =
                ap (λ (m : ℕ). get_elem? one (n % m)) (one_pass ∙ sym (length_offsets (p + 5) its_repeat.body))
                ∙ sym (nth_times its_repeat.count one n inside)
                ∙ sym (nth_front (times its_repeat.count one) its_repeat.others n (omega (arith, f, passes, all)))
                ∙ ap (λ (l : List ℕ). get_elem? l n) (sym its_repeat.are)
                ∙ h.written_from;
          }

      -- The position is behind the repeat.
      pub repeat_passed : count * r.nodes ≤ n → Heading s (r.at + 1) (n - count * r.nodes) from
      repeat_passed f =
          let there : r.at + 1 ≡ p + 6 + length (bytes its_repeat.body) = omega (arith, (pass its_repeat.body body_from).passed) in
          record {
            offsets = its_repeat.others;
            ahead = rw there its_repeat.ahead;
            below = omega (arith, h.below, ap length its_repeat.are, length-append (times its_repeat.count one) its_repeat.others, all, passes, f);
            written_from =
                sym (nth_back (times its_repeat.count one) its_repeat.others (n - count * r.nodes) n (omega (arith, f, all, passes)))
                ∙ ap (λ (l : List ℕ). get_elem? l n) (sym its_repeat.are)
                ∙ h.written_from;
          }
