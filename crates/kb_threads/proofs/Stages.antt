-- A completion that is shared, into which a batch of overlaps is entered.
use Rattle.std.proofs.Common.{◌≡◌, ℕ, ◌+◌, ◌-◌, ◌<◌, List, [], ◌∷◌, ◌++◌, length, get_or, take, drop, refl, sym, ◌∙◌, ap, subst, arith}
use Rattle.std.specs.List.{All}
use Rattle.std.proofs.lemmas.List.{length-drop, take_all, take_more, take-append-drop}
use Rattle.std.proofs.lemmas.List.Elements.{All-drop}
use Rattle.kb_machine.specs.States.{State}
use Rattle.kb_machine.specs.Course.{Course, Takes}
use Rattle.kb_share.specs.Later.{entries}
use Rattle.kb_share.specs.Passes.{IsOverlapOfLines, entered as after_entries, entry_of, state_entered}
use Rattle.kb_share.specs.declared.found.Found.{Found}
use Rattle.kb_share.proofs.Entries.{state_entered_none, state_entered_twice}
use Rattle.kb_share.proofs.Stages.{entries-append}
use Rattle.kb_threads.specs.Shared.{AreOverlaps, EntersBatch, IsStageOf}

-- what is given is a stage of itself, into which nothing was entered
pub stage_itself : (given course : Course) (batch : List Found) → course ≡ given → AreOverlaps given batch
    → IsStageOf given batch (record { course = course; entered = 0 })
stage_itself given course batch same overlaps =
    subst (λ (c : Course). IsStageOf given batch (record { course = c; entered = 0 })) (sym same)
    (record {
      overlaps = overlaps;
      within = omega arith;
      problem = refl;
      state = state_entered_none given.state;
      entries = omega arith;
    })

-- the next overlap of the batch is one of lines still
pub next_overlaps : (given before : Course) (batch : List Found) (count : ℕ) (one : Found) → count < length batch
    → one ≡ get_or batch count one → IsStageOf given batch (record { course = before; entered = count })
    → IsOverlapOfLines before.state one
next_overlaps given before batch count one within is stage =
    let overlaps : IsOverlapOfLines given.state one = subst (IsOverlapOfLines given.state) (sym is) (stage.overlaps count one within) in
    let P : State → Type 0 = λ state. IsOverlapOfLines state one in
    subst P (sym stage.state) overlaps

-- what is left of a list, as it is read
rest_of : {X : Type 0} (count : ℕ) (xs : List X) → take (length xs - count) (drop count xs) ≡ drop count xs
rest_of count xs =
    let same = length-drop count xs in
    take_all (length xs - count) (drop count xs) (omega (arith, same))

-- so are those that are left
pub rest_overlaps : (given before : Course) (batch read : List Found) (count : ℕ) → read ≡ batch
    → IsStageOf given batch (record { course = before; entered = count })
    → All (IsOverlapOfLines before.state) (take (length read - count) (drop count read))
rest_overlaps given before batch read count same stage =
    let rest : All (IsOverlapOfLines given.state) (drop count batch) =
    All-drop (IsOverlapOfLines given.state) count batch stage.overlaps in
    let P : State → Type 0 = λ state. All (IsOverlapOfLines state) (drop count batch) in
    let Q : List Found → Type 0 = λ list. All (IsOverlapOfLines before.state) list in
    subst Q (ap (drop count) (sym same) ∙ sym (rest_of count read)) (subst P (sym stage.state) rest)

-- an entry more
pub stage_entered : (worker : ℕ) (one : Found) (given before after : Course) (batch : List Found) (count : ℕ) → count < length batch
    → one ≡ get_or batch count one → IsStageOf given batch (record { course = before; entered = count })
    → Takes (entry_of worker one) before after → IsStageOf given batch (record { course = after; entered = count + 1 })
stage_entered worker one given before after batch count within is stage takes =
    let joined = entries-append before.journal (entry_of worker one ∷ []) in
    let journal = ap entries takes.journal in
    let so_far = stage.entries in
    let more : take count batch ++ one ∷ [] ≡ take (count + 1) batch =
    ap (λ (x : Found). take count batch ++ x ∷ []) is ∙ sym (take_more batch count one within) in
    record {
      overlaps = stage.overlaps;
      within = omega (arith, within);
      problem = takes.problem ∙ stage.problem;
      state = takes.step.is
          ∙ ap (λ (s : State). state_entered s (one ∷ [])) stage.state
          ∙ state_entered_twice given.state (take count batch) (one ∷ [])
          ∙ ap (state_entered given.state) more;
      entries = omega (arith, so_far, journal, joined);
    }

-- the stage is kept where nothing changed
pub stage_same : (given before after : Course) (batch : List Found) (count : ℕ)
    → IsStageOf given batch (record { course = before; entered = count }) → after ≡ before
    → IsStageOf given batch (record { course = after; entered = count })
stage_same given before after batch count stage same =
    subst (λ (c : Course). IsStageOf given batch (record { course = c; entered = count })) (sym same) stage

-- where the rest of the batch is entered, all of it is
pub batch_entered : (worker : ℕ) (given before after : Course) (batch read : List Found) (count : ℕ) → read ≡ batch
    → IsStageOf given batch (record { course = before; entered = count })
    → after ≡ after_entries worker before (take (length read - count) (drop count read)) → EntersBatch given batch after
batch_entered worker given before after batch read count same stage is =
    let rest : take (length read - count) (drop count read) ≡ drop count batch = rest_of count read ∙ ap (drop count) same in
    record {
      problem = ap (λ (c : Course). c.problem) is ∙ stage.problem;
      state = ap (λ (c : Course). c.state) is
          ∙ ap (λ (s : State). state_entered s (take (length read - count) (drop count read))) stage.state
          ∙ ap (state_entered (state_entered given.state (take count batch))) rest
          ∙ state_entered_twice given.state (take count batch) (drop count batch)
          ∙ ap (state_entered given.state) (take-append-drop count batch);
    }
