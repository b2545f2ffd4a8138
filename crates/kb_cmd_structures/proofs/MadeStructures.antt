-- What is stored of a group's own structure, and that words can be followed by it.
use Rattle.std.proofs.Common.{◌≡◌, ◌∙◌, ℕ, suc, ◌+◌, ◌<◌, ◌≤◌, List, [], ◌∷◌, ◌++◌, All, Some, length, get_or, map, drop, refl, sym, ap, subst, arith}
use Rattle.std.proofs.Math.Seq.{drop-cons}
use Rattle.std.proofs.lemmas.List.{append_assoc, append-nil, drop_all, map-append}
use Rattle.std.proofs.lemmas.List.Elements.{All-get_or}
use Rattle.kb_word.specs.Presentations.{PresentationParts, parts_of}
use Rattle.kb_word.specs.Relations.{relations_of}
use Rattle.kb_word.specs.declared.presentation.Presentation.{Presentation}
use Rattle.kb_word.specs.declared.word_order.WordOrder.{WordOrder}
use Rattle.kb_word.specs.declared.word_order.WordOrder.TheVariants.{ShortLex}
use Rattle.kb_fsa.specs.Canonical.{IsCanonical}
use Rattle.kb_fsa.specs.Language.{Accepts, Automaton, IsAutomaton, generators}
use Rattle.kb_fsaprint.specs.Printed.{text_of_automaton}
use Rattle.kb_structure.specs.Structure.{IsAutomaticStructure}
use Rattle.kb_structure.specs.StructureOf.{structure_of}
use Rattle.kb_structure.proofs.Representatives.{empty_representative}
use Rattle.kb_certificates.proofs.Loops.{multiplier_at}
use Rattle.kb_axioms.specs.Answered.{checked_in}
use Rattle.kb_axioms.specs.Checked.{own_structure}
use Rattle.kb_axioms.proofs.Passing.{can_be_followed}
use Rattle.kb_axioms.proofs.Presented.{fit}
use Rattle.kb_reduce.specs.Leading.{LeadToLeastWords}
use Rattle.kb_round.specs.Rounds.{IsOwnStructure}
use Rattle.kb_task.specs.Stores.{Text, text_of, texts_of}
use Rattle.kb_task.specs.declared.storing.TextFile.{TextFile}
use Rattle.kb_evidence.specs.Files.{acceptor_file, multiplier_file}
use Rattle.kb_cmd_structures.specs.Made.{AreMade, multiplier_texts, structure_texts}

module _ {presentation : Presentation} {limit : ℕ} {acceptor : Automaton} {multipliers : List Automaton}
    (own : IsOwnStructure presentation limit acceptor multipliers) where
  -- ---- each automaton can be printed

  one_name : length presentation.names ≡ presentation.n
  one_name = presentation.is_presentation.one_name_each

  pub names_of_acceptor : length presentation.names ≡ generators acceptor.alphabet
  names_of_acceptor = one_name ∙ sym (ap generators own.words)

  pub many_multipliers : length multipliers ≡ presentation.n
  many_multipliers = own.pairs.one_each

  module _ (place : ℕ) (multiplier : Automaton) (within : place < length multipliers) (is : multiplier ≡ get_or multipliers place multiplier) where
    pub names_of_multiplier : length presentation.names ≡ generators multiplier.alphabet
    names_of_multiplier =
        one_name ∙ sym (ap generators (own.pairs.pairs (place + 1) multiplier (multiplier_at multipliers place multiplier within is)))

    pub canonical_multiplier : IsCanonical multiplier.table
    canonical_multiplier =
        let Canonical : Automaton → Type 0 = λ automaton. IsCanonical automaton.table in
        subst Canonical (sym is) (All-get_or Canonical multipliers place multiplier within own.multipliers_are_canonical)

  -- ---- words can be followed

  pub leads : presentation.order ≡ ShortLex → LeadToLeastWords presentation acceptor multipliers
  leads shortlex =
      let checked = checked_in presentation acceptor multipliers limit in
      let relations = relations_of presentation.inv presentation.eqs in
      let Own : WordOrder → Type 0 = λ order. IsAutomaticStructure (structure_of order relations acceptor multipliers) in
      record {
        alphabet = own.words;
        own = subst Own (sym shortlex) own.own;
        followed = can_be_followed checked (fit presentation acceptor multipliers own.words own.pairs) own.passes.earlier.earlier.earlier;
        empty_word = ((own.own.acceptor []).1 (empty_representative (own_structure checked))).accepted;
      }

  -- ---- the files are those of the group's structure

  pub are_made : (file own_file : List ℕ) → own_file ≡ file → (texts : List Text) → IsAutomaton acceptor → All IsAutomaton multipliers
      → texts ≡ structure_texts own_file presentation.names acceptor multipliers → AreMade file (parts_of presentation) texts
  are_made file own_file same texts automaton automata are =
      let Are : List ℕ → Type 0 = λ name. texts ≡ structure_texts name presentation.names acceptor multipliers in
      record {
        presentation = presentation;
        presented = refl;
        limit = limit;
        acceptor = acceptor;
        multipliers = multipliers;
        own = own;
        acceptor_is = automaton;
        multipliers_are = automata;
        are = subst Are same are;
      }

-- ---- one file after another

module _ (file : List ℕ) (names : List (List ℕ)) (multipliers : List Automaton) (whole : List Text) where
  -- the texts so far and those of the multipliers that are left are all
  abbrev pub IsPart : List TextFile → ℕ → Type 0
  IsPart files place = texts_of files ++ multiplier_texts file names (place + 1) (drop place multipliers) ≡ whole

  -- so they are with one more
  pub one_more : (files : List TextFile) (next : TextFile) (place : ℕ) (multiplier : Automaton) → place < length multipliers
      → multiplier ≡ get_or multipliers place multiplier
      → text_of next ≡ record { name = multiplier_file file (place + 1); bytes = text_of_automaton names multiplier }
      → IsPart files place → IsPart (files ++ next ∷ []) (place + 1)
  one_more files next place multiplier within is text part =
      let later : place + 1 ≡ suc place = omega arith in
      let rest : ℕ → List Text = λ x. multiplier_texts file names (suc x) (drop (suc place) multipliers) in
      let own : Text = record { name = multiplier_file file (place + 1); bytes = text_of_automaton names multiplier } in
      let split : drop place multipliers ≡ multiplier ∷ drop (suc place) multipliers =
      drop-cons multipliers place multiplier within ∙ ap (λ (m : Automaton). m ∷ drop (suc place) multipliers) (sym is) in
      let before : texts_of files ++ (own ∷ rest (place + 1)) ≡ whole =
      sym (ap (λ (list : List Automaton). texts_of files ++ multiplier_texts file names (place + 1) list) split) ∙ part in
      let pushed : texts_of (files ++ next ∷ []) ≡ texts_of files ++ own ∷ [] =
      map-append text_of files (next ∷ []) ∙ ap (λ (t : Text). texts_of files ++ t ∷ []) text in
      let same : multiplier_texts file names (place + 1 + 1) (drop (place + 1) multipliers) ≡ rest (place + 1) =
      ap (λ (k : ℕ). multiplier_texts file names k (drop (place + 1) multipliers)) (next_number (place + 1))
      ∙ ap (λ (k : ℕ). multiplier_texts file names (suc (place + 1)) (drop k multipliers)) later in
      ap (λ (t : List Text). t ++ multiplier_texts file names (place + 1 + 1) (drop (place + 1) multipliers)) pushed
      ∙ (ap (λ (t : List Text). (texts_of files ++ own ∷ []) ++ t) same
      ∙ (append_assoc (texts_of files) (own ∷ []) (rest (place + 1)) ∙ before))
    where
      next_number : (x : ℕ) → x + 1 ≡ suc x
      next_number x = omega arith

  -- and where no multiplier is left they are all there is
  pub all_there : (files : List TextFile) (place : ℕ) → length multipliers ≤ place → IsPart files place → texts_of files ≡ whole
  all_there files place past part =
      sym (append-nil (texts_of files))
      ∙ (ap (λ (list : List Automaton). texts_of files ++ multiplier_texts file names (place + 1) list) (sym (drop_all place multipliers past))
      ∙ part)

-- the first file is that of the word acceptor
pub starts : (file : List ℕ) (names : List (List ℕ)) (acceptor : Automaton) (multipliers : List Automaton) (files pushed : List TextFile)
    (first : TextFile) (name : List ℕ) → files ≡ [] → pushed ≡ files ++ first ∷ [] → name ≡ acceptor_file file
    → text_of first ≡ record { name = name; bytes = text_of_automaton names acceptor }
    → IsPart file names multipliers (structure_texts file names acceptor multipliers) pushed 0
starts file names acceptor multipliers files pushed first name none is named text =
    let Named : List ℕ → Type 0 = λ own. text_of first ≡ record { name = own; bytes = text_of_automaton names acceptor } in
    let one : pushed ≡ first ∷ [] = is ∙ ap (λ (before : List TextFile). before ++ first ∷ []) none in
    ap (λ (list : List TextFile). texts_of list ++ multiplier_texts file names 1 multipliers) one
    ∙ ap (λ (t : Text). t ∷ multiplier_texts file names 1 multipliers) (subst Named named text)
