-- What a batch writes word by word is what its packets write.
-- Assumes nothing.
use mathlib.Core.Path.{◌≡◌, refl, sym, ap, ◌∙◌}
use mathlib.Core.Bool.{Bool, true, false, cond}
use mathlib.Core.List.{List, [], ◌∷◌, ◌++◌, append_assoc}
use Prim.Native.Nat.{ℕ, zero}
use lib.Dec.{eqb}
use lib.ListN.{length}
use Rattle.laws.specs.Lists.{All, join}
use Rattle.meaning.specs.declared.VideoOffset.{VideoOffset}
use Rattle.meaning.specs.declared.Kind.{Kind}
use Rattle.meaning.specs.declared.Kind.TheVariants.{Setting, Parameter, Video}
use Rattle.meaning.specs.Words.{offset, video_offset, following, data24}
use Rattle.meaning.specs.Registers.{find_video}
use Rattle.meaning.specs.Grants.{Terms}
use Rattle.meaning.specs.Batch.{offset_3d, named, Packet, Cut}
use Rattle.meaning.specs.State.{Write, write_to, writes_3d, writes_run, body_writes, packet_writes, all_writes}
use Rattle.meaning.specs.Positions.{kind_of, after, next_kind, next_left, goes, carries, write_at, writes_in, writes_from, writes_of}
use Rattle.meaning.proofs.Cuts.{Headed, headed, head_of}

-- ---- the words of one packet's body

pub in_parameters : (s : ℕ) (ps : List ℕ) → writes_in (Parameter s) ps ≡ writes_3d s ps
unfolding writes_in writes_3d goes carries after
in_parameters s [] = refl
in_parameters s (p ∷ ps) = ap (λ (x : List Write). write_to (named s p) (data24 p) ++ x) (in_parameters s ps)

pub in_run : (o : VideoOffset) (vs : List ℕ) → writes_in (Video o) vs ≡ writes_run o vs
unfolding writes_in writes_run goes carries after
in_run o [] = refl
in_run o (v ∷ vs) = ap (λ (x : List Write). write_to (find_video o) v ++ x) (in_run (following o) vs)

in_body : (b : Bool) (h : ℕ) (t : List ℕ) → writes_in (cond b Setting (Video (video_offset h))) t ≡ body_writes b (video_offset h) t
unfolding writes_in goes carries after
in_body true h [] = refl
in_body true h (s ∷ ps) = in_parameters s ps
in_body false h t = in_run (video_offset h) t

-- between packets the kind does not matter
pub between : (k m : Kind) (ws : List ℕ) → writes_from k zero ws ≡ writes_from m zero ws
unfolding writes_from write_at next_kind next_left
between k m [] = refl
between k m (w ∷ ws) = refl

from_body : (kind : Kind) (t rest : List ℕ) → writes_from kind (length t) (t ++ rest) ≡ writes_in kind t ++ writes_from Setting zero rest
unfolding writes_from writes_in write_at next_kind next_left
from_body kind [] rest = between kind Setting rest
from_body kind (w ∷ t) rest =
    ap (λ (x : List Write). write_to (goes kind w) (carries kind w) ++ x) (from_body (after kind w) t rest)
    ∙ sym (append_assoc (write_to (goes kind w) (carries kind w)) _ _)

from_packet : {p : List ℕ} (rest : List ℕ) → Headed p → writes_from Setting zero (p ++ rest) ≡ packet_writes p ++ writes_from Setting zero rest
unfolding writes_from write_at next_kind next_left packet_writes kind_of
from_packet rest (headed h t n) =
    ap (λ (k : ℕ). writes_from (kind_of h) k (t ++ rest)) (sym n)
    ∙ from_body (kind_of h) t rest
    ∙ ap (λ (x : List Write). x ++ writes_from Setting zero rest) (in_body (eqb (offset h) offset_3d) h t)

from_packets : (g : Terms) (ps : List (List ℕ)) → All (Packet g) ps → writes_from Setting zero (join ps) ≡ all_writes ps
unfolding writes_from all_writes
from_packets g [] a = refl
from_packets g (p ∷ ps) a = from_packet (join ps) (head_of a.0) ∙ ap (λ (x : List Write). packet_writes p ++ x) (from_packets g ps a.1)

pub writes_of_cut : (g : Terms) (ws : List ℕ) (c : Cut g ws) → writes_of ws ≡ all_writes c.packets
unfolding writes_of
writes_of_cut g ws c = ap (writes_from Setting zero) (sym c.joined) ∙ from_packets g c.packets c.permitted
