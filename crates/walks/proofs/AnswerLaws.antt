-- What the code answers, for each outcome of its tests, is what the definitions say, and so what is promised. On the way to record R what is left of the
-- way leads to the same place from each turn on.
use mathlib.Core.Path.{◌≡◌, sym, ◌∙◌}
use mathlib.Core.List.{List}
use Prim.Native.Nat.{ℕ, suc, ◌+◌, ◌-◌, ◌≤◌, ◌<◌}
use native.Mathlib.Omega.{arith}
use lib.ListN.{length}
use borrow.Author.Tests.{lt-leb, le-leb}
use Rattle.rules.specs.Output.{cost}
use Rattle.rules.specs.ReelPlaces.{word_at}
use Rattle.rules.proofs.Reel.ReelLaws.{header_is}
use Rattle.terms.specs.Meaning.{format_of}
use Rattle.pieces.specs.declared.Form.{Form}
use Rattle.walks.specs.declared.Walk.{Walk}
use Rattle.walks.specs.declared.RecordRead.{RecordRead}
use Rattle.std.specs.Prelude.{Option, Some, None}
use Rattle.walks.specs.Walking.{Starting, block_start, first_walk, behind_at, end_in, record_of, opened_walk, onwards, taken_walk}
use Rattle.walks.specs.Marks.{marked_all}
use Rattle.walks.specs.Promise.{Sound, Standing, Begun, RecordTold, WalkTaken}
use Rattle.walks.proofs.StandsLaws.{stands_all}
use Rattle.walks.proofs.WalkLaws.{walks_all, says_of, lies_of, walks_taken, starting, Reads, reads_of}

-- ---- the promises

pub begun : (form : Form) (s : List ℕ) (w : Walk) → w ≡ first_walk form s → Begun form s w
begun form s w e = record { is = e; all = λ p recs f g. rw e (walks_all form p s recs f g) }

pub told : (form : Form) (s : List ℕ) (w : Walk) (r : Option RecordRead) → Standing form s w → r ≡ record_of form s w → RecordTold form s w r
told form s w r x e =
    record { is = e; lies = rw e (lies_of form x.p s w x.rest x.form_is x.walks); says = λ p rest f k. rw e (says_of form p s w rest f k) }

pub all_taken : (form : Form) (s : List ℕ) (first : ℕ) (w : Walk) → w ≡ taken_walk form s first → WalkTaken form s first w
all_taken form s first w e = record { is = e; all = λ p recs f g. rw e (walks_taken form p s f first recs g) }

-- ---- before a block

-- before the first: the words of the header are there
pub first_there : {form : Form} {s : List ℕ} → Sound form s → 8 ≤ length s
first_there {s = s} x = omega (arith, (header_is s x.good.reel).there)

pub first_starts : {form : Form} {s : List ℕ} → Sound form s → (from : ℕ) → from ≡ word_at s 4 → Starting form s 8 from
first_starts {form} {s} x from e = rw e (starting form x.p s 0 (marked_all x.recs) (stands_all form x.p s x.recs x.form_is x.good))

pub first_is_lem : (form : Form) (s : List ℕ) (w : Walk) (from : ℕ) → from ≡ word_at s 4 → w ≡ block_start form s 8 from → w ≡ first_walk form s
unfolding first_walk
first_is_lem form s w from e d = rw (sym e) d

-- ---- a step

-- the record
pub record_none : (form : Form) (s : List ℕ) (w : Walk) → length s ≤ w.at → None ≡ record_of form s w
unfolding record_of
record_none form s w l = rw (le-leb (length s) w.at l)

pub record_found : (form : Form) (s : List ℕ) (w : Walk) (first end : ℕ) (next : Walk) → w.at < length s → first ≡ cost (format_of form.format)
    → end ≡ end_in (format_of form.format) form.n s w.at w.end → next ≡ behind_at form s w end
    → Some (record { start = w.at + first; length = end - (w.at + first); begins = w.begins; next = next }) ≡ record_of form s w
unfolding record_of
record_found form s w first end next l a e n = rw (lt-leb (length s) w.at l, n, e, a)

pub reads : {form : Form} {s : List ℕ} {w : Walk} → Standing form s w → w.at < length s → Reads form s w
reads {form} {s} {w} x l = reads_of form x.p s w x.rest x.form_is x.walks l

-- ---- the way to record R

-- on the way to record R, from record `number` on
pub record Going (form : Form) (s : List ℕ) (first : ℕ) (w : Walk) (number : ℕ) : Type 0 where
  pub same : taken_walk form s first ≡ opened_walk (onwards form s (first - number) w)
  pub stands : Standing form s w

pub going_start : (form : Form) (s : List ℕ) (first : ℕ) (w : Walk) → Sound form s → Begun form s w → Going form s first w 1
unfolding taken_walk
going_start form s first w x b =
    record {
      same = rw b.is;
      stands = record { p = x.p; rest = marked_all x.recs; form_is = x.form_is; walks = b.all x.p x.recs x.form_is x.good };
    }

-- behind a record the walk stands in the reel again
pub stands_next : {form : Form} {s : List ℕ} {w : Walk} {read : RecordRead} → Standing form s w → RecordTold form s w (Some read) → Standing form s read.next
stands_next x t = let q = t.says x.p x.rest x.form_is x.walks in record { p = x.p; rest = q.more; form_is = x.form_is; walks = q.walks }

module _ {form : Form} {s : List ℕ} {first : ℕ} {w : Walk} {number : ℕ} (g : Going form s first w number) (l : number < first) where
  more_left : first - number ≡ suc (first - (number + 1))
  more_left = omega arith

  pub going_more : {read : RecordRead} → RecordTold form s w (Some read) → Going form s first read.next (number + 1)
  going_more t = record { same = g.same ∙ rw (more_left, sym t.is); stands = stands_next g.stands t }

  pub going_ended : RecordTold form s w None → opened_walk w ≡ taken_walk form s first
  going_ended t = sym (g.same ∙ rw (more_left, sym t.is))

pub going_there : {form : Form} {s : List ℕ} {first : ℕ} {w : Walk} {number : ℕ} → Going form s first w number → first ≤ number → opened_walk w ≡ taken_walk form s first
going_there {first = first} {number = number} g l = let z : first - number ≡ 0 = omega arith in sym (g.same ∙ rw z)
