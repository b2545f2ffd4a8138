-- What the loads of a structure mean, from what their parts mean.
use Rattle.std.proofs.Common.{◌≡◌, ◌∙◌, ℕ, zero, suc, ◌+◌, ◌<◌, ◌≤◌, List, [], ◌∷◌, ◌++◌, length, Some, slice_get, refl, sym, ap, subst, arith}
use Rattle.std.specs.Prelude.{IsTrue, Result, Ok, Err, IfOk, IfErr}
use Rattle.std.proofs.lemmas.Option.{none-some, same_Some}
use Rattle.kb_io.specs.Outside.{outside}
use Rattle.kb_io.specs.States.{ShelfState, SourceState, SinkState}
use Rattle.kb_word.specs.Presentations.{parts_of}
use Rattle.kb_word.specs.declared.presentation.Presentation.{Presentation}
use Rattle.kb_word.specs.declared.word_order.WordOrder.TheVariants.{ShortLex}
use Rattle.kb_diff.specs.Groups.{EachInverts}
use Rattle.kb_task.specs.Presentations.{HoldsPresentation}
use Rattle.kb_fsa.specs.declared.alphabet.Alphabet.TheVariants.{Pair}
use Rattle.kb_fsa.specs.Language.{Automaton}
use Rattle.kb_structure.specs.StructureOf.{multiplier_of}
use Rattle.kb_axioms.specs.Truth.{AreMultipliers}
use Rattle.kb_task.specs.Loads.{Files, EndsAtLoad, OnlyLoads}
use Rattle.kb_task.specs.Runs.{FaultIsCounted}
use Rattle.kb_task.specs.declared.loading.LoadStop.TheVariants as stops
use Rattle.kb_task.specs.declared.status.FileFault.{FileFault}
use Rattle.kb_task.specs.declared.status.Status.{Status}
use Rattle.kb_task.specs.declared.status.Status.TheVariants.{Memory}
use Rattle.kb_task.proofs.RunLemmas.{counted_after, goes_on-loads, loads-along}
use Rattle.kb_task.proofs.LoadEnds.{same_files}
use Rattle.kb_evidence.specs.Files.{multiplier_file}
use Rattle.kb_cmd_structures.specs.Loaded.{EndsAtMultiplier, HoldsGroup, HoldsMultiplier, HoldMultipliers, IsMultiplierFault}

-- memory ran out at any file
pub memory_ends : {IsFault : FileFault → Type 0} {name : List ℕ} → EndsAtLoad IsFault name Memory
memory_ends = record { stop = stops.Memory; is = refl; cause = tt }

-- a failure of a load that came after another load is counted from the first on
pub counted_along : (a b c : ShelfState) → OnlyLoads a b → (status : Status)
    → ((input : SourceState) (output : SinkState) → FaultIsCounted (outside b input output) (outside c input output) status)
    → (input : SourceState) (output : SinkState) → FaultIsCounted (outside a input output) (outside c input output) status
counted_along a b c loads status counted input output =
    counted_after (outside a input output) (outside b input output) (outside c input output) status
    (goes_on-loads a b input output loads) (counted input output)

-- what is told is told after a load
pub told_after : {a b : ShelfState} → OnlyLoads a b → IsTrue a.told → IsTrue b.told
told_after loads told = rw loads.goes_on.told told

-- what holds of a result's value, or of its error, holds of it as what follows from that
module _ {X E : Type 0} where
  pub ok_with : {P Q : X → Type 0} (result : Result X E) → IfOk result P → ((x : X) → P x → Q x) → IfOk result Q
  ok_with (Ok x) holds then_so = then_so x holds
  ok_with (Err e) holds then_so = tt

  pub err_with : {P Q : E → Type 0} (result : Result X E) → IfErr result P → ((e : E) → P e → Q e) → IfErr result Q
  err_with (Ok x) holds then_so = tt
  err_with (Err e) holds then_so = then_so e holds

-- the file of a name holds a group
pub held_group : {files : Files} {name file : List ℕ} {presentation : Presentation} → name ≡ file
    → HoldsPresentation files name (parts_of presentation) → presentation.order ≡ ShortLex → EachInverts presentation.n presentation.inv
    → HoldsGroup files file presentation
held_group {files = files} {presentation = presentation} named presents shortlex inverses =
    let At : List ℕ → Type 0 = λ name. HoldsPresentation files name (parts_of presentation) in
    record { presents = subst At named presents; group = record { shortlex = shortlex; inverses = inverses } }

-- ---- one multiplier after another

-- the list's multipliers read pairs over n generators
abbrev pub ReadPairs : ℕ → List Automaton → Type 0
ReadPairs n multipliers = (x : ℕ) (multiplier : Automaton) → multiplier_of multipliers x ≡ Some multiplier → multiplier.alphabet ≡ Pair n

slice_of_push : {X : Type 0} (xs : List X) (last : X) (place : ℕ) (found : X) → slice_get (xs ++ last ∷ []) place ≡ Some found
    → (P : ℕ → X → Type 0) → ((k : ℕ) (x : X) → slice_get xs k ≡ Some x → P k x) → P (length xs) last → P place found
slice_of_push [] last zero found is P before here = subst (P zero) (same_Some last found is) here
slice_of_push [] last (suc place) found is P before here = absurd (none-some found is)
slice_of_push (x ∷ xs) last zero found is P before here = before zero found is
slice_of_push (x ∷ xs) last (suc place) found is P before here =
    slice_of_push xs last place found is (λ k. P (suc k)) (λ k. before (suc k)) here

-- a fact of each multiplier holds of one more too
pub of_push : (P : ℕ → Automaton → Type 0) (multipliers : List Automaton) (last : Automaton)
    → ((x : ℕ) (multiplier : Automaton) → multiplier_of multipliers x ≡ Some multiplier → P x multiplier)
    → P (suc (length multipliers)) last
    → (x : ℕ) (multiplier : Automaton) → multiplier_of (multipliers ++ last ∷ []) x ≡ Some multiplier → P x multiplier
of_push P multipliers last before here zero multiplier is = absurd (none-some multiplier is)
of_push P multipliers last before here (suc place) multiplier is =
    slice_of_push multipliers last place multiplier is (λ k. P (suc k)) (λ k. before (suc k)) here

-- there is no multiplier yet
pub of_none : (P : ℕ → Automaton → Type 0) (x : ℕ) (multiplier : Automaton) → multiplier_of [] x ≡ Some multiplier → P x multiplier
of_none P zero multiplier is = absurd (none-some multiplier is)
of_none P (suc place) multiplier is = absurd (none-some multiplier is)

-- what stands after some multipliers were loaded
pub record Standing (file : List ℕ) (presentation : Presentation) (start now : ShelfState) (count : ℕ) (multipliers : List Automaton) : Type 0 where
  pub loads : OnlyLoads start now
  pub many : length multipliers ≡ count
  pub pairs : ReadPairs presentation.n multipliers
  pub held : IsTrue start.told → HoldMultipliers start.holds file presentation multipliers

module _ {file : List ℕ} {presentation : Presentation} {start now : ShelfState} {count : ℕ} {multipliers : List Automaton}
    (standing : Standing file presentation start now count multipliers) where
  -- one more was loaded
  pub one_more : {next : ShelfState} (last : Automaton) (generator : ℕ) → generator ≡ suc count → OnlyLoads now next
      → (IsTrue now.told → HoldsMultiplier now.holds file presentation generator last) → last.alphabet ≡ Pair presentation.n
      → Standing file presentation start next (count + 1) (multipliers ++ last ∷ [])
  one_more last generator is loads holds pair =
      let number : generator ≡ suc (length multipliers) = is ∙ ap suc (sym standing.many) in
      record {
        loads = loads-along standing.loads loads;
        many = length_pushed multipliers last ∙ ap (λ k. k + 1) standing.many;
        pairs = of_push (λ x multiplier. multiplier.alphabet ≡ Pair presentation.n) multipliers last standing.pairs pair;
        held = λ told.
            let At : Files → Type 0 = λ files. HoldsMultiplier files file presentation generator last in
            let Numbered : ℕ → Type 0 = λ x. HoldsMultiplier start.holds file presentation x last in
            of_push (HoldsMultiplier start.holds file presentation) multipliers last (standing.held told)
            (subst Numbered number (subst At (same_files standing.loads) (holds (told_after standing.loads told))));
      }
    where
      length_pushed : (xs : List Automaton) (x : Automaton) → length (xs ++ x ∷ []) ≡ length xs + 1
      length_pushed [] x = refl
      length_pushed (y ∷ xs) x = omega (arith, length_pushed xs x)

  -- the run ended at the next
  pub ends_at_next : (status : Status) (generator : ℕ) → generator ≡ suc count → count < presentation.n
      → (IsTrue now.told → EndsAtLoad (IsMultiplierFault now.holds file presentation generator) (multiplier_file file generator) status)
      → IsTrue start.told → EndsAtMultiplier start.holds file presentation status
  ends_at_next status generator is within ends told =
      let number : generator ≡ suc (length multipliers) = is ∙ ap suc (sym standing.many) in
      let At : Files → Type 0 = λ files.
      EndsAtLoad (IsMultiplierFault files file presentation generator) (multiplier_file file generator) status in
      let Numbered : ℕ → Type 0 = λ x. EndsAtLoad (IsMultiplierFault start.holds file presentation x) (multiplier_file file x) status in
      record {
        earlier = multipliers;
        held = standing.held told;
        within = omega (arith, within, standing.many);
        ends = subst Numbered number (subst At (same_files standing.loads) (ends (told_after standing.loads told)));
      }

  -- all were loaded
  pub all_loaded : presentation.n ≤ count → count ≤ presentation.n → AreMultipliers presentation.n multipliers
  all_loaded past within = record { one_each = omega (arith, past, within, standing.many); pairs = standing.pairs }
