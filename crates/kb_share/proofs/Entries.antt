-- Overlaps that are entered, one after another.
use Rattle.std.proofs.Common.{◌≡◌, ◌≢◌, ℕ, ◌+◌, ◌<◌, List, [], ◌∷◌, ◌++◌, length, take, get_or, map, sym, ◌∙◌, ap, append_assoc}
use Rattle.std.proofs.lemmas.List.{map-append, append-nil, take_more}
use Rattle.kb_machine.specs.declared.origin.Origin.{Origin}
use Rattle.kb_machine.specs.States.{Problem, State}
use Rattle.kb_machine.specs.Course.{Course, Takes}
use Rattle.kb_machine.specs.declared.event.Event.{Event}
use Rattle.kb_share.specs.declared.found.Found.{Found}
use Rattle.kb_share.specs.Versions.{version_of}
use Rattle.kb_share.specs.Passes.{AreAllApart, entered, entry_of, origin_of, state_entered, EntersApart, EntersSoMany}

-- a completion with these pending origins and events in place of its own
abbrev with : Course → List Origin → List Event → Course
with course pending journal = record {
  problem = course.problem;
  state = record {
    lines = course.state.lines;
    live = course.state.live;
    pending = pending;
    versions = course.state.versions;
    halt = course.state.halt;
  };
  journal = journal;
}

same_with : (course : Course) (p q : List Origin) (e f : List Event) → p ≡ q → e ≡ f → with course p e ≡ with course q f
same_with course p q e f same same' = ap (λ (o : List Origin). with course o e) same ∙ ap (with course q) same'

-- nothing was entered
pub entered_none : (worker : ℕ) (course : Course) → course ≡ entered worker course []
entered_none worker course =
    same_with course course.state.pending (course.state.pending ++ []) course.journal (course.journal ++ [])
    (sym (append-nil course.state.pending)) (sym (append-nil course.journal))

-- what was entered first, and what came then
pub entered_twice : (worker : ℕ) (course : Course) (found row : List Found)
    → entered worker (entered worker course found) row ≡ entered worker course (found ++ row)
entered_twice worker course found row =
    same_with course ((course.state.pending ++ map origin_of found) ++ map origin_of row) (course.state.pending ++ map origin_of (found ++ row))
    ((course.journal ++ map (entry_of worker) found) ++ map (entry_of worker) row) (course.journal ++ map (entry_of worker) (found ++ row))
    (append_assoc course.state.pending (map origin_of found) (map origin_of row)
    ∙ ap (λ (o : List Origin). course.state.pending ++ o) (sym (map-append origin_of found row)))
    (append_assoc course.journal (map (entry_of worker) found) (map (entry_of worker) row)
    ∙ ap (λ (e : List Event). course.journal ++ e) (sym (map-append (entry_of worker) found row)))

course_is : (course : Course) (problem : Problem) (state : State) (journal : List Event) → course.problem ≡ problem
    → course.state ≡ state → course.journal ≡ journal → course ≡ record { problem = problem; state = state; journal = journal }
course_is course problem state journal p s j =
    ap (λ (q : Problem). record { problem = q; state = course.state; journal = course.journal }) p
    ∙ ap (λ (t : State). record { problem = problem; state = t; journal = course.journal }) s
    ∙ ap (λ (k : List Event). record { problem = problem; state = state; journal = k }) j

-- one overlap was entered
pub takes_entered : (worker : ℕ) (one : Found) (before after : Course) → Takes (entry_of worker one) before after
    → after ≡ entered worker before (one ∷ [])
takes_entered worker one before after takes =
    course_is after before.problem (entered worker before (one ∷ [])).state (before.journal ++ entry_of worker one ∷ [])
    takes.problem takes.step.is takes.journal

-- the next one was entered too
pub enters_next : (worker : ℕ) (found : List Found) (k : ℕ) (one : Found) (start before after : Course) → k < length found
    → one ≡ get_or found k one → before ≡ entered worker start (take k found) → Takes (entry_of worker one) before after
    → after ≡ entered worker start (take (k + 1) found)
enters_next worker found k one start before after within is so_far takes =
    let more : take k found ++ one ∷ [] ≡ take (k + 1) found =
    ap (λ (x : Found). take k found ++ x ∷ []) is ∙ sym (take_more found k one within) in
    takes_entered worker one before after takes
    ∙ ap (λ (c : Course). entered worker c (one ∷ [])) so_far
    ∙ entered_twice worker start (take k found) (one ∷ [])
    ∙ ap (entered worker start) more

-- all that is apart was entered, and there were so many
pub enters_so_many : (before after : Course) (found list : List Found) (count : ℕ) → AreAllApart (version_of before.state) found
    → list ≡ found → after ≡ entered 1 before list → count ≡ length found → EntersSoMany before after count
enters_so_many before after found list count apart same enters number = record {
  all = record { found = found; are_apart = apart; enters = enters ∙ ap (entered 1 before) same };
  number = sym number;
}

-- what was entered first and what came then, of states
pub state_entered_twice : (state : State) (found row : List Found)
    → state_entered (state_entered state found) row ≡ state_entered state (found ++ row)
state_entered_twice state found row =
    ap (λ (pending : List Origin). record {
      lines = state.lines;
      live = state.live;
      pending = pending;
      versions = state.versions;
      halt = state.halt;
    })
    (append_assoc state.pending (map origin_of found) (map origin_of row)
    ∙ ap (λ (o : List Origin). state.pending ++ o) (sym (map-append origin_of found row)))

-- nothing was entered
pub state_entered_none : (state : State) → state ≡ state_entered state []
state_entered_none state =
    ap (λ (pending : List Origin). record {
      lines = state.lines;
      live = state.live;
      pending = pending;
      versions = state.versions;
      halt = state.halt;
    })
    (sym (append-nil state.pending))

-- a pass that enters all that is apart enters something apart, if it enters anything
pub some_entered : (before after : Course) (count : ℕ) → EntersSoMany before after count → count ≢ 0 → EntersApart before after
some_entered before after count enters some = record {
  found = enters.all.found;
  some = λ none. some (sym enters.number ∙ ap length none);
  are_apart = enters.all.are_apart.each;
  problem = ap (λ (c : Course). c.problem) enters.all.enters;
  state = ap (λ (c : Course). c.state) enters.all.enters;
}
