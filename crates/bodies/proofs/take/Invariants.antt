-- Each word is asked and what it writes is stored: to read on from here is to read the whole.
-- Assumes nothing.
use Rattle.std.proofs.Common.{◌≡◌, ℕ, ◌+◌, ◌≤◌}
use Rattle.std.proofs.Math.Seq.{slice}
use Rattle.std.specs.Iterator.Adapters.{zip_first, zip_second}
use Rattle.meaning.specs.declared.Kind.{Kind}
use Rattle.meaning.specs.Words.{words_of}
use Rattle.meaning.specs.Grants.{Terms}
use Rattle.bodies.specs.Passes.{body_from}
use Rattle.bodies.specs.Told.{Judges}
use Rattle.bodies.proofs.take.Given as goal

abbrev pub invariant-loop-k : goal.invariant-loop-k
invariant-loop-k g l =
    let k = (zip_first l.k-iterator).start in
    let at = (zip_second l.k-iterator).start in
    let ws = words_of l.batch in
    record {
      can_next : (goal.iterator-loop-k g).can_next l.k-iterator;
      finite : (goal.iterator-loop-k g).is_finite l.k-iterator;
      from : l.first ≤ at;
      to : at ≤ l.end;
      end : (zip_second l.k-iterator).end ≡ l.end;
      apart : k + l.first ≡ l.index + at;
      whole : (h : Terms) (kind : ℕ → Kind) → Judges (goal.F-post g l.ask) h kind l.index l.first l.end ws
          → body_from h at (kind k) (slice at l.end ws) l.state ≡ body_from h l.first (kind l.index) (slice l.first l.end ws) l.initial.state;
    }
