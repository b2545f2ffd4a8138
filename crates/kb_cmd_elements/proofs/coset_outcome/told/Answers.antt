use Rattle.std.proofs.Common.{◌≡◌, ◌∙◌, ℕ, List, sym, ap, subst}
use Rattle.kb_word.specs.Words.{Pair}
use Rattle.kb_word.specs.Presentations.{PresentationParts, parts_of}
use Rattle.kb_word.specs.declared.presentation.Presentation.{Presentation}
use Rattle.kb_coset.specs.Marked.{marked_parts}
use Rattle.kb_coset.specs.CosetWords.{AreCosetRules, Cosets}
use Rattle.kb_system.specs.Completed.{IsReducedSystem}
use Rattle.kb_task.specs.Stores.{Text, texts_of}
use Rattle.kb_cmd_elements.specs.CosetAnswers.{marked_of, texts_of_rules}
use Rattle.kb_cmd_elements.proofs.coset_outcome.told.Goals as goal

pub new-coset_words-requires : goal.new-coset_words-requires
new-coset_words-requires c =
    let parts : PresentationParts = parts_of c.args.presentation in
    let cosets : Cosets = record { parts = parts; generators = c.args.generators.items } in
    let rules : List Pair = c.args.rules.now.rules in
    let each = c.args.presentation.is_presentation.one_name_each in
    let Reduced : PresentationParts → Type 0 = λ p. IsReducedSystem p rules in
    let At : ℕ → Type 0 = λ n. IsReducedSystem (marked_parts n c.args.generators.items parts) rules in
    let reduced : At c.args.presentation.n = subst At each (subst Reduced c.requires.marked c.requires.reduced) in
    let Found : Presentation → Type 0 =
    λ p. AreCosetRules p.n (record { parts = parts_of p; generators = c.args.generators.items }) c.in_ok-index.index.rules in
    let Rules : List Pair → Type 0 = λ r. AreCosetRules c.args.presentation.n cosets r in
    subst Found (sym c.in_ok-reader.ensures)
    (subst Rules (sym c.in_ok-index.ensures.rules) (record { few = c.requires.few; letters = c.requires.letters; reduced = reduced }))

pub returns : goal.returns
returns c = λ given same.
    let cosets : Cosets = record { parts = parts_of c.args.presentation; generators = c.args.generators.items } in
    let rules : List Pair = c.args.rules.now.rules in
    let texts : List Text = texts_of c.in_ok-files.files.items in
    let Named : List ℕ → Type 0 = λ name. texts ≡ texts_of_rules name (marked_of cosets) rules in
    let Marked : PresentationParts → Type 0 = λ p. texts ≡ texts_of_rules c.args.name.now p rules in
    let Reduced : PresentationParts → Type 0 = λ p. IsReducedSystem p rules in
    let told_of : Presentation → Cosets = λ p. record { parts = parts_of p; generators = c.args.generators.items } in (
      record {
        rules = rules;
        reduced = subst Reduced c.requires.marked c.requires.reduced;
        are = subst Named (sym same) (subst Marked c.requires.marked c.in_ok-files.ensures);
      },
      c.new-coset_words.ensures ∙ ap told_of c.in_ok-reader.ensures,
    )
