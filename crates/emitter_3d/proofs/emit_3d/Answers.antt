-- Of all words, those of the stages and the samples are left once the target's are emitted, and then those of the samples.
-- Assumes nothing.
use mathlib.Core.Path.{◌≡◌, sym, ap, ◌∙◌}
use mathlib.Core.List.{List, [], ◌++◌, append-nil}
use Prim.Native.Nat.{ℕ, ◌+◌, ◌/◌, ◌≤◌}
use native.Mathlib.Omega.{arith}
use lib.ListN.{length}
use Rattle.meaning.specs.Words.{words_of}
use Rattle.meaning.specs.Registers.{sections_3d}
use Rattle.words.specs.Stores.{put_words}
use Rattle.emitter_3d.specs.Emitted.{target_words, series_from, many, words_of_sections}
use Rattle.emitter_3d.proofs.Emitted.{words_3d}
use Rattle.emitter_3d.proofs.Runs.{Runs, Done, begun, same_long, within, room_here, went, ended}
use Rattle.emitter_3d.proofs.emit_3d.Goals as goal
use Rattle.emitter_3d.proofs.emit_3d.Goals.{Start}

-- the words of the target, of the stages and of the samples
abbrev target : goal.Start → List ℕ
target s = target_words (words_of s.args.state.now)

abbrev stages : goal.Start → List ℕ
stages s = series_from (words_of s.args.state.now) 4 2 0x50 0x00 0 many

abbrev samples : goal.Start → List ℕ
samples s = series_from (words_of s.args.state.now) 36 3 0x30 0x20 0 many

-- so much of all words is left
abbrev Left : goal.Start → List ℕ → List ℕ → ℕ → Type 0
Left s = Runs (words_of_sections (words_of s.args.state.now) sections_3d) s.args.out.now 0

start : (s : goal.Start) → Left s (target s ++ (stages s ++ (samples s ++ []))) s.args.out.now 0
start s = begun _ _ _ (words_3d (words_of s.args.state.now) ∙ ap (λ (ws : List ℕ). target s ++ (stages s ++ ws)) (sym (append-nil (samples s))))

-- what a series asks for that is next: it ends at the end of all or before, and there is room up to there
asked : (s : goal.Start) (piece more : List ℕ) {out : List ℕ} {at : ℕ} → Left s (piece ++ more) out at
    → (at + length piece ≤ s.args.end) × (s.args.end ≤ length out / 4)
asked s piece more left = (omega (arith, within piece more left, s.requires.end), omega (arith, same_long left, s.requires.room))

-- the target's words are emitted: the stages' and the samples' are left
after_target : (s : goal.Start) {out : List ℕ} {at : ℕ} → (at ≡ length (target s)) × (out ≡ put_words s.args.out.now 0 (target s)) → Left s (stages s ++ (samples s ++ [])) out at
after_target s (moved, written) = went (target s) (stages s ++ (samples s ++ [])) (start s) (omega (arith, moved), written)

-- and then the samples' alone
after_stages : (s : goal.Start) {mid out : List ℕ} {place at : ℕ} → (place ≡ length (target s)) × (mid ≡ put_words s.args.out.now 0 (target s))
    → Done (stages s) mid place out at → Left s (samples s ++ []) out at
after_stages s first second = went (stages s) (samples s ++ []) (after_target s first) second

pub emit_target-stages-requires : goal.emit_target-stages-requires
emit_target-stages-requires c =
    let s = (goal.at.emit_target-stages-requires c).Start in
    record {
      whole = c.requires.whole;
      narrow = c.requires.narrow;
      room = omega (arith, room_here (target s) (stages s ++ (samples s ++ [])) (start s) (omega (arith, c.requires.end, c.requires.room)));
    }

pub emit_series-samples-requires : goal.emit_series-samples-requires
emit_series-samples-requires c =
    let s = (goal.at.emit_series-samples-requires c).Start in
    let first = c.emit_target-stages.ensures in
    let both = asked s (stages s) (samples s ++ []) (after_target s (first.end, first.words)) in
    record {
      whole = c.requires.whole;
      narrow = c.requires.narrow;
      inside = omega arith;
      few = omega arith;
      short = omega arith;
      sub = omega arith;
      end = both.0;
      room = both.1;
    }

pub emit_series-requires : goal.emit_series-requires
emit_series-requires c =
    let s = (goal.at.emit_series-requires c).Start in
    let first = c.emit_target-stages.ensures in
    let second = c.emit_series-samples.ensures in
    let both = asked s (samples s) [] (after_stages s (first.end, first.words) (second.end, second.words)) in
    record {
      whole = c.requires.whole;
      narrow = c.requires.narrow;
      inside = omega arith;
      few = omega arith;
      short = omega arith;
      sub = omega arith;
      end = both.0;
      room = both.1;
    }

pub returns : goal.returns
returns c =
    let s = (goal.at.returns c).Start in
    let first = c.emit_target-stages.ensures in
    let second = c.emit_series-samples.ensures in
    let third = c.emit_series.ensures in
    record { words = (ended (went (samples s) [] (after_stages s (first.end, first.words) (second.end, second.words)) (third.end, third.words))).1 }
