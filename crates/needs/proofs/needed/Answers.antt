-- The needs of the target, of the stages, of the samples and of the video cells.
-- Assumes nothing.
use mathlib.Core.Path.{◌≡◌}
use Prim.Native.Nat.{◌+◌, ◌*◌, ◌≤◌}
use native.Mathlib.Omega.{arith}
use Rattle.meaning.specs.Words.{words_of}
use Rattle.meaning.specs.Registers.{sections_3d}
use Rattle.meaning.specs.State.{marked}
use Rattle.meaning.specs.Writer.{most_written, need_among, need_for}
use Rattle.meaning.proofs.Writing.{need_at_most}
use Rattle.needs.proofs.Series.{need_3d, need_all}
use Rattle.needs.proofs.needed.Goals as goal
use Rattle.needs.proofs.needed.Goals.{After-marked_between-video, After-series_need-samples}

-- the sums are the needs: of the 3D sections,
sum_3d : (c : goal.After-series_need-samples) →
    c.series_need-target.result + c.series_need-stages.result + c.series_need-samples.result
    ≡ need_among (marked (words_of c.args.state.now)) sections_3d
sum_3d c =
    omega (
      arith,
      need_3d (marked (words_of c.args.state.now)),
      c.series_need-samples.ensures.need,
      c.series_need-stages.ensures.need,
      c.series_need-target.ensures.need,
    )

-- and of all, which is small
sum : (c : goal.After-marked_between-video) →
    let chosen = marked (words_of c.args.state.now) in
    (need_among chosen sections_3d + 2 * c.marked_between-video.result ≡ need_for chosen) × (need_for chosen ≤ most_written)
sum c =
    let chosen = marked (words_of c.args.state.now) in
    (omega (arith, need_all chosen, c.marked_between-video.ensures.count), need_at_most chosen)

pub overflow_mul-video : goal.overflow_mul-video
overflow_mul-video c = omega (arith, sum (goal.at.overflow_mul-video c).After-marked_between-video)

pub overflow_add-before_video : goal.overflow_add-before_video
overflow_add-before_video c = let at = goal.at.overflow_add-before_video c in omega (arith, sum_3d at.After-series_need-samples, sum at.After-marked_between-video)

pub overflow_add-before_video-2 : goal.overflow_add-before_video-2
overflow_add-before_video-2 c = let at = goal.at.overflow_add-before_video-2 c in omega (arith, sum_3d at.After-series_need-samples, sum at.After-marked_between-video)

pub overflow_add-result : goal.overflow_add-result
overflow_add-result c = let at = goal.at.overflow_add-result c in omega (arith, sum_3d at.After-series_need-samples, sum at.After-marked_between-video)

pub returns : goal.returns
returns c =
    let at = goal.at.returns c in
    record {
      before_video = sum_3d at.After-series_need-samples;
      in_all = omega (arith, sum_3d at.After-series_need-samples, sum at.After-marked_between-video);
    }
