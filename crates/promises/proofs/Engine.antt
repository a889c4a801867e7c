-- What the engine promises, of whatever the contracts of its three calls allow: an engine that was opened with the bytes of a state and of a
-- grant list and fed these words, one after another, and what closing it gives.
-- Assumes nothing.
use mathlib.Core.Path.{◌≡◌, sym, ap, ◌∙◌}
use mathlib.Core.Logic.{◌↔◌, ◌≢◌}
use mathlib.Core.List.{List, [], ◌∷◌, ◌++◌}
use Prim.Native.Nat.{ℕ, suc, ◌≤◌, ◌<◌}
use lib.Dec.{T}
use lib.ListN.{length}
use Rattle.laws.specs.Lists.{All}
use Rattle.laws.proofs.Tests.{true_of}
use Rattle.meaning.specs.Words.{Byte, words_of}
use Rattle.meaning.specs.Grants.{grants_fine}
use Rattle.meaning.specs.State.{well_formed, empty}
use Rattle.meaning.specs.Answers.{Answer, engine_full, answer}
use Rattle.meaning.specs.Reader.{read_answer, read_leaves}
use Rattle.meaning.specs.Engine.{most_fed, word_refused, opening, feeding, closing, call_answer, engine_answer, engine_leaves}
use Rattle.meaning.specs.Reasons.{EngineGives}
use Rattle.feeding.proofs.Promises as theory
use Rattle.feeding.proofs.Gives.{gives_exactly}
use Rattle.engine.specs.declared.Engine.{Engine}
use Rattle.engine.specs.declared.Closed.{Closed}
use Rattle.engine.proofs.open.Reads as engine_open
use Rattle.engine.proofs.feed.Reads as engine_feed
use Rattle.engine.proofs.close.Reads as engine_close
use Rattle.promises.proofs.Histories.{fed_holds, holds_answer, close_holds}
use Rattle.promises.proofs.Promises.{left_as_words}
use Rattle.promises.specs.CallContracts.{Reading, Opening, Feeding, Closing, Fed, just_opened, and_fed, answered, closing_answer}

-- ==== The contracts

-- what `engine::open` is proved to do, for any bytes that are lent to it,
pub opens_engines : (κs : _) (a : _) (r : _) (s : _) → engine_open.Learnt κs a r s → Opening a.0.now a.1.0.now r
opens_engines κs a r s p = p

-- `engine::feed`, for any engine and any word,
pub feeds_engines : (κs : _) (a : _) (r : _) (s : _) → engine_feed.Learnt κs a r s → Feeding a.0 a.1.0 r
feeds_engines κs a r s p = p

-- and `engine::close`
pub closes_engines : (κs : _) (a : _) (r : _) (s : _) → engine_close.Learnt κs a r s → Closing a.0 r
closes_engines κs a r s p = p

-- ==== The engine and its words

-- `st` and `grants` are the bytes that were lent at opening, and sw and gs the words that they are
module _ (st grants : List ℕ) where
  abbrev sw : List ℕ
  sw = words_of st

  abbrev gs : List ℕ
  gs = words_of grants

  -- what it answers is what the definitions say of the words fed: to opening,
  pub opening_tells : (e : Engine) → Opening st grants e → answered e ≡ engine_answer sw gs opening
  opening_tells e o = holds_answer sw gs [] e (fed_holds st grants (just_opened o)) ∙ theory.none_fed sw gs

  module _ {ws : List ℕ} {e : Engine} (fed : Fed st grants ws e) where
    -- to the last word,
    pub feeding_tells : answered e ≡ engine_answer sw gs (feeding ws)
    feeding_tells = holds_answer sw gs ws e (fed_holds st grants fed)

    -- and to closing, with the state that is handed back
    pub closing_tells : (c : Closed) → Closing e c → (closing_answer c ≡ engine_answer sw gs (closing ws)) × (c.state ≡ engine_leaves sw gs ws)
    closing_tells c closed = close_holds sw gs ws e (fed_holds st grants fed) c closed

    -- A5 "A reason is given exactly if its row fits": to the last word,
    pub each_word_reason_exactly : (r p : ℕ) → (answered e ≡ answer r p) ↔ EngineGives sw gs (feeding ws) r p
    each_word_reason_exactly r p = rw feeding_tells (gives_exactly sw gs (feeding ws) r p)

    -- and to closing
    pub each_closing_reason_exactly : (c : Closed) → Closing e c → (r p : ℕ) → (closing_answer c ≡ answer r p) ↔ EngineGives sw gs (closing ws) r p
    each_closing_reason_exactly c closed r p = rw (closing_tells c closed).0 (gives_exactly sw gs (closing ws) r p)

  -- A5 of opening
  pub each_opening_reason_exactly : (e : Engine) → Opening st grants e → (r p : ℕ) → (answered e ≡ answer r p) ↔ EngineGives sw gs opening r p
  each_opening_reason_exactly e o r p = rw (opening_tells e o) (gives_exactly sw gs opening r p)

  -- ==== Opening

  -- M2 "every later call repeats that answer, and closing hands back the empty state"
  pub record Repeated (e : Engine) : Type 0 where
    pub words : (ws : List ℕ) (f : Engine) → Fed st grants ws f → answered f ≡ answered e
    pub closed : (ws : List ℕ) (f : Engine) → Fed st grants ws f → (c : Closed) → Closing f c → (closing_answer c ≡ answered e) × (c.state ≡ empty)

  -- M1 "Opening gives 1, then 2, as the reader does. Else it answers 0 at 0.", and after 1 or 2 every later call repeats it
  pub engine_opens : (e : Engine) → Opening st grants e → theory.Opens sw gs (answered e) × (e.reason ≢ 0 → Repeated e)
  engine_opens e o =
      let tells = opening_tells e o in (
        rw tells (theory.opens_as sw gs),
        λ n.
            let m : (engine_answer sw gs opening).reason ≢ 0 = λ z. n (ap (λ (a : Answer). a.reason) tells ∙ z) in
            record {
              words = λ ws f fed. feeding_tells fed ∙ (theory.refused_at_opening sw gs ws m).feed ∙ sym tells;
              closed = λ ws f fed c closed.
                  let again = theory.refused_at_opening sw gs ws m in
                  let told = closing_tells fed c closed in
                  (told.0 ∙ again.close ∙ sym tells, told.1 ∙ again.state);
            },
      )

  -- ==== Where opening answers 0: the state is well-formed, and the grant list keeps its rules

  module _ (s : T (well_formed sw)) (l : T (grants_fine gs)) where
    answers_0 : (engine_answer sw gs opening).reason ≡ 0
    unfolding engine_answer call_answer
    answers_0 = rw (true_of (well_formed sw) s, true_of (grants_fine gs) l)

    module _ {ws : List ℕ} {e : Engine} (fed : Fed st grants ws e) where
      -- D6 "fed with the batch and closed, it gives the reader's answer and hands back the state that the reader leaves"
      pub engine_closes_as_the_reader : length ws ≤ most_fed → (c : Closed) → Closing e c → (closing_answer c ≡ read_answer ws gs sw) × (c.state ≡ read_leaves ws gs sw)
      engine_closes_as_the_reader few c closed =
          let told = closing_tells fed c closed in
          let same = theory.closes_as_the_reader sw gs ws answers_0 few in
          (told.0 ∙ same.0, told.1 ∙ same.1)

      -- so it is whatever the contract of `reader::read` allows on the bytes of the same batch
      pub engine_is_the_reader : length ws ≤ most_fed → (c : Closed) → Closing e c
          → (batch : List ℕ) (a : Answer) (left : List ℕ) → words_of batch ≡ ws → All Byte batch → All Byte st → Reading batch grants st a left
          → (closing_answer c ≡ a) × (c.state ≡ words_of left)
      engine_is_the_reader few c closed batch a left same b x read =
          let told = engine_closes_as_the_reader few c closed in (
            told.0 ∙ sym (read.0 ∙ ap (λ (v : List ℕ). read_answer v gs sw) same),
            told.1 ∙ sym (left_as_words batch grants st a left read b x ∙ ap (λ (v : List ℕ). read_leaves v gs sw) same),
          )

      module _ (w : ℕ) (r : Engine) (next : Feeding e w r) where
        -- the answer to one more word
        next_tells : answered r ≡ engine_answer sw gs (feeding (ws ++ (w ∷ [])))
        next_tells = feeding_tells (and_fed w fed next)

        -- M3 "A word is refused exactly if the reader gives one of 3 to 9 on the words fed up to and with it, and is then given that answer.",
        -- M4 "A word that is taken is answered 0 at the number of words fed."
        pub engine_refuses_exactly : length ws < most_fed
            → ((r.reason ≢ 0) ↔ T (word_refused (read_answer (ws ++ (w ∷ [])) gs sw)))
            × (r.reason ≢ 0 → answered r ≡ read_answer (ws ++ (w ∷ [])) gs sw)
            × (r.reason ≡ 0 → answered r ≡ answer 0 (suc (length ws)))
        engine_refuses_exactly few =
            let word = theory.refuses_exactly sw gs ws w answers_0 few in
            let reason : r.reason ≡ (engine_answer sw gs (feeding (ws ++ (w ∷ [])))).reason = ap (λ (a : Answer). a.reason) next_tells in
            (rw reason word.exactly, λ n. next_tells ∙ word.refusal (rw reason at n), λ z. next_tells ∙ word.taken (sym reason ∙ z))

        -- M5 "A word that is fed after 2^32 − 1 words that were all taken is given 23 at 2^32 − 1, whatever it is."
        pub engine_holds_so_many : e.reason ≡ 0 → length ws ≡ most_fed → answered r ≡ answer engine_full most_fed
        engine_holds_so_many z full = next_tells ∙ theory.holds_so_many sw gs ws w answers_0 (sym (ap (λ (a : Answer). a.reason) (feeding_tells fed)) ∙ z) full

      -- M6 "Once a word is refused, by 3 to 9 or by 23, words fed after it change nothing. They and closing are given the same answer.", and the
      -- state that was handed in comes back
      pub engine_stays_refused : e.reason ≢ 0 → (more : List ℕ) (f : Engine) → Fed st grants (ws ++ more) f
          → (answered f ≡ answered e) × ((c : Closed) → Closing f c → (closing_answer c ≡ answered e) × (c.state ≡ sw))
      engine_stays_refused n more f on =
          let tells = feeding_tells fed in
          let stays = theory.stays_refused sw gs ws more answers_0 (λ z. n (ap (λ (a : Answer). a.reason) tells ∙ z)) in (
            feeding_tells on ∙ stays.feed ∙ sym tells,
            λ c closed. let told = closing_tells on c closed in (told.0 ∙ stays.close ∙ sym tells, told.1 ∙ stays.state),
          )
