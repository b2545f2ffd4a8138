-- Files hold one group, one word acceptor and one list of multipliers.
use Rattle.std.proofs.Common.{◌≡◌, ◌∙◌, ℕ, suc, ◌<◌, List, length, get_or, sym, ap, subst, arith}
use Rattle.std.proofs.lemmas.List.{ext_get_or}
use Rattle.std.proofs.lemmas.Option.{slice_get-get_or}
use Rattle.kb_word.specs.Presentations.{PresentationParts, parts_of}
use Rattle.kb_word.specs.Relations.{IsOver, relations_of}
use Rattle.kb_word.specs.declared.presentation.Presentation.{Presentation}
use Rattle.kb_fsa.specs.Language.{Automaton, generators}
use Rattle.kb_machine.proofs.Relations.{relations_over}
use Rattle.kb_structure.specs.Structure.{AreOverGenerators}
use Rattle.kb_axioms.specs.Answered.{checked_in}
use Rattle.kb_axioms.specs.Checked.{checked_of, own_structure}
use Rattle.kb_task.specs.Loads.{Files}
use Rattle.kb_task.specs.Statuses.{IsConclusive}
use Rattle.kb_task.specs.Presentations.{IsGroupFault}
use Rattle.kb_task.specs.declared.status.Status.{Status}
use Rattle.kb_task.proofs.LoadEnds.{load_inconclusive, one_held, one_presentation_held}
use Rattle.kb_evidence.specs.Files.{acceptor_file, multiplier_file}
use Rattle.kb_cmd_structures.specs.Loaded.{EndsAtAutomata, EndsAtFile, HoldStructure, IsAcceptorFault, IsMultiplierFault, at_group, at_automata, at_acceptor, at_multiplier}

-- no answer comes before the automata are loaded
pub automata_inconclusive : (files : Files) (file : List ℕ) (presentation : Presentation)
    (status : Status) → EndsAtAutomata files file presentation status → ¬ IsConclusive status
automata_inconclusive files file presentation status (at_acceptor ends) =
    load_inconclusive (IsAcceptorFault files file presentation) (acceptor_file file) status ends
automata_inconclusive files file presentation status (at_multiplier accepts ends) =
    let x = suc (length ends.earlier) in
    load_inconclusive (IsMultiplierFault files file presentation x) (multiplier_file file x) status
    ends.ends

-- nor before the files are loaded
pub files_inconclusive : (files : Files) (file : List ℕ) (status : Status)
    → EndsAtFile files file status
    → ¬ IsConclusive status
files_inconclusive files file status (at_group ends) =
    load_inconclusive (IsGroupFault files file) file status ends
files_inconclusive files file status (at_automata {presentation = presentation} group ends) =
    automata_inconclusive files file presentation status ends

-- the relations of a group that is held are over the generators of the automata
pub held_over : {files : Files} {file : List ℕ} {presentation : Presentation}
    {acceptor : Automaton} {multipliers : List Automaton} (limit : ℕ)
    → HoldStructure files file presentation acceptor multipliers
    → AreOverGenerators (own_structure (checked_in presentation acceptor multipliers limit))
held_over {presentation = presentation} limit held relation one =
    let Over : ℕ → Type 0 = λ n. IsOver n relation.0 × IsOver n relation.1 in
    subst Over (sym (ap generators held.accepts.1))
    (relations_over presentation.is_presentation relation one)

module _ {files others : Files} {file : List ℕ} {one other : Presentation}
    {acceptor second : Automaton} {multipliers more : List Automaton}
    (held : HoldStructure files file one acceptor multipliers)
    (also : HoldStructure others file other second more)
    (same_group : files file ≡ others file)
    (same_acceptor : files (acceptor_file file) ≡ others (acceptor_file file))
    (same_multipliers : (x : ℕ) → files (multiplier_file file x) ≡ others (multiplier_file file x))
  where
    one_parts : parts_of one ≡ parts_of other
    one_parts = one_presentation_held same_group held.group.presents also.group.presents

    one_acceptor : acceptor ≡ second
    one_acceptor = (one_held same_acceptor held.accepts.0 also.accepts.0).1

    as_long : length multipliers ≡ length more
    as_long =
        let n : one.n ≡ other.n =
        sym (ap generators held.accepts.1)
        ∙ (ap (λ (a : Automaton). generators a.alphabet) one_acceptor
        ∙ ap generators also.accepts.1) in
        held.one_each ∙ (n ∙ sym also.one_each)

    one_multiplier : (place : ℕ) → place < length multipliers
        → get_or multipliers place acceptor ≡ get_or more place acceptor
    one_multiplier place within =
        let here = slice_get-get_or multipliers place acceptor within in
        let there =
        slice_get-get_or more place acceptor (omega (arith, within, as_long)) in
        (one_held (same_multipliers (suc place))
        (held.multiply (suc place) (get_or multipliers place acceptor) here).0
        (also.multiply (suc place) (get_or more place acceptor) there).0).1

    one_list : multipliers ≡ more
    one_list = ext_get_or acceptor multipliers more as_long one_multiplier

    -- the same is checked
    pub one_checked : (limit : ℕ) → checked_in one acceptor multipliers limit
        ≡ checked_in other second more limit
    one_checked limit =
        ap (λ (parts : PresentationParts).
        checked_of acceptor multipliers (relations_of parts.inverses parts.equations) limit) one_parts
        ∙ (ap (λ (a : Automaton).
        checked_of a multipliers (relations_of other.inv other.eqs) limit) one_acceptor
        ∙ ap (λ (list : List Automaton).
        checked_of second list (relations_of other.inv other.eqs) limit) one_list)
