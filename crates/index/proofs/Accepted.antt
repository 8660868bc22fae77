-- A fold that is accepted: what is known of its bytes, and the theorems about what unrolling it writes.
use mathlib.Core.Path.{◌≡◌, sym, ap, ◌∙◌}
use mathlib.Core.List.{List, map}
use mathlib.Core.Option.{some}
use Prim.Native.Nat.{ℕ}
use lib.ListN.{length, get_elem?}
use Rattle.format.specs.Forest.{at_most, unroll, nodes, bytes}
use Rattle.format.specs.Tree.{tree_of}
use Rattle.format.specs.Machine.{accepted}
use Rattle.format.specs.Order.{Bytes}
use Rattle.format.specs.Readings.{free, fold_rules, greatest_operand, alone_in, fold_alone}
use Rattle.format.specs.Shape.{tally_of}
use Rattle.format.specs.declared.tally.Tally.{Tally}
use Rattle.format.proofs.Bridge.{parses}
use Rattle.format.proofs.Tree.{tree_of_bytes}
use Rattle.index.specs.Nodes.{Node, Written, StandsIn, marked, nodes_of, written_by}
use Rattle.index.specs.inner.Passing.{WasRead}
use Rattle.index.proofs.Nodes.{length_writes, writes_run, writes_from, writes_stand}
use Rattle.index.proofs.Outermost.{whole_stands}

-- A fold that is accepted: it is the byte form of its tree, and the text is what that unrolls to.
pub record AcceptedFold (s : List ℕ) (t : Tally) (x : List ℕ) : Type 0 where
  pub was_read : WasRead s
  pub total : t.nodes ≡ nodes (tree_of s)
  pub text : bytes (unroll (tree_of s)) ≡ x

pub accepted_fold : (s : List ℕ) → Bytes s → (t : Tally) (x : List ℕ) → fold_alone s ≡ accepted t x → AcceptedFold s t x
unfolding alone_in tally_of
accepted_fold s small t x e =
    let a = parses (fold_rules (at_most greatest_operand) free) s small t x e in
    let same : a.tree ≡ tree_of s = sym (tree_of_bytes a.tree) ∙ ap tree_of a.form in
    record {
      was_read = record {
        form = rw (← same) a.form;
        allowed = _;
        sound = rw same at a.shape.sound;
        few = rw same at a.shape.total;
      };
      total = sym (ap (λ (u : Tally). u.nodes) a.counts) ∙ ap nodes same;
      text = rw (← same) a.text;
    }

-- Theorems about any fold that is accepted.
module _ (s : List ℕ) (small : Bytes s) (t : Tally) (x : List ℕ) (e : fold_alone s ≡ accepted t x) where
  z : AcceptedFold s t x
  z = accepted_fold s small t x e

  -- Without the offsets the list is the nodes of the unrolled run.
  pub written_run : map (λ (w : Written). w.node) (written_by s) ≡ nodes_of x
  written_run = writes_run 0 (tree_of s) ∙ ap nodes_of z.text

  -- At each offset of the list the fold has that command with that label.
  pub written_stands : (n : ℕ) (w : Written) → get_elem? (written_by s) n ≡ some w → StandsIn s w
  written_stands = writes_stand (tree_of s) s (whole_stands z.was_read)

  -- Each node comes from the command that stands at its offset: with every label of the fold replaced by the offset of its command,
  -- the labels of the unrolled run are the offsets of the list, one by one.
  pub written_from : map (λ (w : Written). w.offset) (written_by s) ≡ map (λ (n : Node). n.label) (nodes_of (bytes (unroll (marked 0 (tree_of s)))))
  written_from = writes_from 0 (tree_of s)

  -- The list has an entry exactly at the positions below the node total.
  pub written_total : length (written_by s) ≡ t.nodes
  written_total = length_writes 0 (tree_of s) ∙ sym z.total
