-- What a run in FS writes, in words, is what the definitions compute: TC leaves the blocks, and of TR the words of filling allow one output alone. So too for the
-- blocks that have no records by themselves.
use mathlib.Core.Path.{◌≡◌, refl, ap, sym, ◌∙◌, subst}
use mathlib.Core.Bool.{true, false, true≢false}
use mathlib.Core.List.{List, [], map}
use Prim.Native.Nat.{ℕ, ◌-◌, ◌≤◌}
use native.Mathlib.Omega.{arith}
use lib.ListN.{length, drop}
use Rattle.rules.specs.Places.{All, none_left, both}
use Rattle.rules.specs.Rows.{IsOne, one_number, SizeWithin}
use Rattle.rules.specs.Grammar.{Mode, tc, tf, tr, trf, Format, fsp, Size}
use Rattle.rules.specs.Plan.{Plan, is_tc, is_fs, selects, block_length}
use Rattle.rules.specs.Spanned.{span_of, Spans}
use Rattle.rules.specs.Run.{spanned_out}
use Rattle.rules.specs.RunRows.{RecordIs, Holds, SpansOut, left, filled}
use Rattle.rules.specs.Accepted.{Accepted}
use Rattle.rules.proofs.Blocks.BlockLaws.{no_record}
use Rattle.rules.proofs.Base.AllLaws.{all_imply, all_drop}
use Rattle.rules.proofs.Deck.LimitLaws.{is_fs_lem}
use Rattle.rules.proofs.Blocks.BlockSizes.{size_most}
use Rattle.rules.proofs.Spanned.SpannedFill.{segmented_spanned, spanned_once}
use Rattle.rules.proofs.Spanned.SpannedRuns.{spans_data}

module _ (p : Plan) (ok : Accepted p) (t : is_fs p.format ≡ true) where
  -- ---- the numbers of A and B

  least : {s : Size} → IsOne s → SizeWithin fsp s → 9 ≤ block_length s
  least one_number w = w.2 refl

  pub low_a : 9 ≤ block_length p.input
  low_a = least (ok.required.fs_one (is_fs_lem p.format t)).0 (subst (λ (f : Format). SizeWithin f p.input) (is_fs_lem p.format t) ok.input)

  pub low_b : 9 ≤ block_length p.output
  low_b = least (ok.required.fs_one (is_fs_lem p.format t)).1 (subst (λ (f : Format). SizeWithin f p.output) (is_fs_lem p.format t) ok.output)

  pub most_a : block_length p.input ≤ 32760
  most_a = let m = size_most p.format p.input ok.input in m.1

  pub most_b : block_length p.output ≤ 32760
  most_b = let m = size_most p.format p.output ok.output in m.1

  -- ---- TC or TR

  pub not_selects : selects p.mode ≡ false
  not_selects = ok.required.fs_with (is_fs_lem p.format t)

  -- what holds of TC and of TR
  by_mode : (P : Mode → Type 0) → (p.mode ≡ tc → P tc) → (p.mode ≡ tr → P tr) → P p.mode
  by_mode P c r = go p.mode refl
    where
      go : (m : Mode) → p.mode ≡ m → P m
      go tc e = c e
      go tf e = absurd (true≢false (sym (ap selects e) ∙ not_selects))
      go tr e = r e
      go trf e = absurd (true≢false (sym (ap selects e) ∙ not_selects))

  -- ---- the output blocks

  module _ (bs rs : List (List ℕ)) (w : Spans (block_length p.input) bs rs) where
    with_data : All (λ r. 1 ≤ length r) (drop (p.first - 1) rs)
    with_data =
        all_drop (p.first - 1)
        (all_imply (λ r h. h.0) (spans_data (block_length p.input) (block_length p.output) low_a (omega (arith, most_a)) low_b (omega (arith, most_b)) bs rs w))

    pub spans_told : SpansOut p bs rs (spanned_out (is_tc p.mode) (block_length p.output) bs (drop (p.first - 1) rs))
    spans_told =
        by_mode (λ m. SpansOut p bs rs (spanned_out (is_tc m) (block_length p.output) bs (drop (p.first - 1) rs))) (λ e. left e)
        (λ e. filled e (segmented_spanned (block_length p.output) low_b with_data))

    pub spans_only : (blocks : List (List ℕ)) → SpansOut p bs rs blocks → blocks ≡ spanned_out (is_tc p.mode) (block_length p.output) bs (drop (p.first - 1) rs)
    spans_only blocks (left e) = ap (λ (m : Mode). spanned_out (is_tc m) (block_length p.output) bs (drop (p.first - 1) rs)) (sym e)
    spans_only blocks (filled {segments = segments} e f) =
        ap (map span_of) (spanned_once (block_length p.output) low_b segments (drop (p.first - 1) rs) f)
        ∙ ap (λ (m : Mode). spanned_out (is_tc m) (block_length p.output) bs (drop (p.first - 1) rs)) (sym e)

  -- ---- no block has records by itself

  pub none_held : {bs : List (List ℕ)} {recs : List (List (List ℕ))} → Holds p bs recs → recs ≡ []
  none_held none_left = refl
  none_held (both {y = rs} v h) = absurd (no_record p (subst (λ (f : Format). All (RecordIs f p) rs) (is_fs_lem p.format t) v.records) v.some)
