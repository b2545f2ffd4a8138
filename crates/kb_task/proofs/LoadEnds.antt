-- Runs that end at a load, and files that are read twice.
use Rattle.std.proofs.Common.{◌≡◌, ◌∙◌, ℕ, List, refl, sym, subst}
use Rattle.std.proofs.Math.Path.{fun_ext}
use Rattle.std.proofs.lemmas.Option.{same_Some}
use Rattle.kb_io.specs.States.{ShelfState}
use Rattle.kb_word.specs.Presentations.{PresentationParts}
use Rattle.kb_record.specs.Grammar.{IsText, TextOf}
use Rattle.kb_lexing.specs.Token.{Token}
use Rattle.kb_record.specs.Tree.{TextTree}
use Rattle.kb_lexing.proofs.OneToken.{one_list}
use Rattle.kb_record.proofs.Unique.{one_text}
use Rattle.kb_fsa.specs.Language.{Automaton}
use Rattle.kb_fsafile.specs.Holds.{AutomatonOf, HoldsAutomaton as TreeHoldsAutomaton}
use Rattle.kb_fsafile.proofs.UniqueAutomaton.{one_automaton}
use Rattle.kb_presfile.specs.Holds.{PresentationOf, HoldsPresentation as TreeHoldsPresentation}
use Rattle.kb_presfile.proofs.UniqueParts.{one_presentation}
use Rattle.kb_task.specs.Automata.{HoldsAutomaton, IsUnrefused}
use Rattle.kb_task.specs.Loads.{Files, IsHeld, IsCause, EndsAtLoad, OnlyLoads, stopped_at}
use Rattle.kb_task.specs.Presentations.{HoldsPresentation}
use Rattle.kb_task.specs.Statuses.{IsConclusive, IsFaultless}
use Rattle.kb_task.specs.declared.loading.LoadStop.{LoadStop}
use Rattle.kb_task.specs.declared.loading.LoadStop.TheVariants as stops
use Rattle.kb_task.specs.declared.status.FileFault.{FileFault}
use Rattle.kb_task.specs.declared.status.Status.{Status}
use Rattle.kb_task.specs.declared.status.Status.TheVariants.{Memory}

module _ (IsFault : FileFault → Type 0) (name : List ℕ) where
  memory_of : (stop : LoadStop) → IsUnrefused IsFault → IsCause IsFault stop → IsFaultless (stopped_at name stop) → stopped_at name stop ≡ Memory
  memory_of (stops.Refused fault) unrefused cause faultless = absurd (unrefused fault cause)
  memory_of stops.Failed unrefused cause faultless = cc
  memory_of stops.Memory unrefused cause faultless = refl

  -- where nothing is refused and no device failed, memory ran out
  pub memory_at_load : (status : Status) → IsUnrefused IsFault → IsFaultless status → EndsAtLoad IsFault name status → status ≡ Memory
  memory_at_load status unrefused faultless ends =
      ends.is ∙ memory_of ends.stop unrefused ends.cause (subst IsFaultless ends.is faultless)

  stop_inconclusive : (stop : LoadStop) → ¬ IsConclusive (stopped_at name stop)
  stop_inconclusive (stops.Refused fault) conclusive = conclusive
  stop_inconclusive stops.Failed conclusive = conclusive
  stop_inconclusive stops.Memory conclusive = conclusive

  -- no answer comes before the file is loaded
  pub load_inconclusive : (status : Status) → EndsAtLoad IsFault name status → ¬ IsConclusive status
  load_inconclusive status ends conclusive = stop_inconclusive ends.stop (subst IsConclusive ends.is conclusive)

-- the bytes of one file are the same
pub same_bytes : {files others : Files} {name bytes read : List ℕ} → files name ≡ others name → IsHeld files name bytes
    → IsHeld others name read → bytes ≡ read
same_bytes same held found = same_Some _ _ (sym held.held ∙ same ∙ found.held)

-- bytes are a text in one way
pub one_tree : (bytes : List ℕ) (one other : TextTree) → TextOf bytes one → TextOf bytes other → one ≡ other
one_tree bytes one other g h =
    let P : List Token → Type 0 = λ ts. IsText ts one in
    one_text h.tokens one other (subst P (one_list bytes g.tokens h.tokens g.spelled h.spelled) g.formed) h.formed

-- bytes are a text of one automaton
one_automaton_text : (bytes : List ℕ) (names others : List (List ℕ)) (one other : Automaton) → AutomatonOf bytes names one
    → AutomatonOf bytes others other → (names ≡ others) × (one ≡ other)
one_automaton_text bytes names others one other a b =
    let same = one_tree bytes a.text b.text a.formed b.formed in
    let P : TextTree → Type 0 = λ text. TreeHoldsAutomaton text.fields names one in
    one_automaton b.text.fields names others one other (subst P same a.holds) b.holds

-- a file holds one automaton
pub one_held : {files others : Files} {name : List ℕ} {names found : List (List ℕ)} {first second : Automaton} → files name ≡ others name
    → HoldsAutomaton files name names first → HoldsAutomaton others name found second → (names ≡ found) × (first ≡ second)
one_held {names = names} {found = found} {first = first} {second = second} same held other =
    one_automaton_text other.bytes names found first second
    (subst (λ b. AutomatonOf b names first) (same_bytes same held.held other.held) held.says) other.says

-- a file holds one presentation
pub one_presentation_held : {files others : Files} {name : List ℕ} {one other : PresentationParts} → files name ≡ others name
    → HoldsPresentation files name one → HoldsPresentation others name other → one ≡ other
one_presentation_held {one = one} {other = other} same first second =
    let read : PresentationOf second.bytes one = subst (λ b. PresentationOf b one) (same_bytes same first.held second.held) first.says in
    let tree = one_tree second.bytes read.text second.says.text read.formed second.says.formed in
    let P : TextTree → Type 0 = λ text. TreeHoldsPresentation text.fields one in
    one_presentation second.says.text.fields one other (subst P tree read.holds) second.says.holds

-- after files were only loaded, the shelf holds the same
pub same_files : {before after : ShelfState} → OnlyLoads before after → after.holds ≡ before.holds
same_files loads = fun_ext loads.files
