-- What a run means that makes an automaton, from what its parts mean.
use Rattle.std.proofs.Common.{◌≡◌, inl, inr, ℕ, List, sym, ◌∙◌, subst}
use Rattle.kb_io.specs.Outside.{Outside, outside, IsUnchanged}
use Rattle.kb_io.specs.States.{ShelfState, SourceState, SinkState}
use Rattle.kb_fsa.specs.Language.{Automaton, SameLanguage}
use Rattle.kb_task.specs.Effects.{Stores}
use Rattle.kb_task.specs.Limits.{undecided_line}
use Rattle.kb_task.specs.Lines.{LimitIsPrinted}
use Rattle.kb_task.specs.Stored.{StoreMeans}
use Rattle.kb_task.specs.declared.status.Limit.{Limit}
use Rattle.kb_task.specs.declared.status.Status.{Status}
use Rattle.kb_task.specs.declared.status.Status.TheVariants.{Yes, Undecided, Memory, Fault}
use Rattle.kb_task.specs.declared.status.Which.TheVariants.{Store, Output}
use Rattle.kb_task.proofs.EffectLemmas.{unchanged-later, writes-later, front-later, stores-later, leaves_unknown-later, writes-printed, front-printed, unchanged-printed}
use Rattle.kb_cmd_automata.specs.Make.{MakeMeans, IsWithin}
use Rattle.kb_cmd_automata.specs.MakeLaws.{IsKnown}

-- ---- another automaton of the same alphabet and language is made of the same ones

pub made-same : {IsMade : Automaton → Type 0} → IsKnown IsMade → (made : Automaton) → IsMade made
    → (stored : Automaton) → stored.alphabet ≡ made.alphabet → SameLanguage made stored → IsMade stored
made-same is_known made is_made stored alphabet same =
    let first = (is_known.is made).0 is_made in
    (is_known.is stored).1 (
      alphabet ∙ first.0,
      (λ text. ((λ accepts. (first.1 text).0 ((same text).1 accepts)), (λ fact. (same text).0 ((first.1 text).1 fact)))),
    )

-- ---- what a run means

module _ (IsMade : Automaton → Type 0) (Exceeds : Limit → Type 0) (out : List ℕ) (names : List (List ℕ)) where
  -- what is stored is the canonical automaton of those that are meant
  pub store-means : (made : Automaton) (before after : Outside) (status : Status)
      → ((stored : Automaton) → stored.alphabet ≡ made.alphabet → SameLanguage made stored → IsMade stored) → IsWithin Exceeds
      → StoreMeans names made out before after status → MakeMeans IsMade Exceeds out names before after status
  store-means made before after Yes is_made few means =
      let text = means.1 in (
        record {
          made = text.stored;
          is_made = is_made text.stored text.alphabet text.language;
          automaton = text.automaton;
          canonical = text.canonical;
          stores = subst (λ b. Stores out b before after) text.text means.2;
        },
        few,
      )
  store-means made before after (Fault (Store name)) is_made few means = (means.0, means.1, few)
  store-means made before after Memory is_made few means = means
  store-means made before after (Fault _) is_made few means = absurd means
  store-means made before after _ is_made few means = absurd means

  -- the limit that the construction exceeds is printed
  pub limit-means : (limit : Limit) (shelf : ShelfState) (input : SourceState) (before after : SinkState) (status : Status) → Exceeds limit
      → LimitIsPrinted names limit before after status → MakeMeans IsMade Exceeds out names (outside shelf input before) (outside shelf input after) status
  limit-means limit shelf input before after status exceeds (inl (inl said)) =
      subst (MakeMeans IsMade Exceeds out names (outside shelf input before) (outside shelf input after)) (sym said.0)
      (exceeds, writes-printed shelf input before after (undecided_line names limit) said.1)
  limit-means limit shelf input before after status exceeds (inl (inr failed)) =
      subst (MakeMeans IsMade Exceeds out names (outside shelf input before) (outside shelf input after)) (sym failed.0)
      (limit, exceeds, front-printed shelf input before after (undecided_line names limit) failed.1)
  limit-means limit shelf input before after status exceeds (inr none) =
      subst (MakeMeans IsMade Exceeds out names (outside shelf input before) (outside shelf input after)) (sym none.0)
      (unchanged-printed shelf input before after none.1)

  -- a run that means so after nothing had been done
  pub make-later : (before between after : Outside) (status : Status) → IsUnchanged before between
      → MakeMeans IsMade Exceeds out names between after status → MakeMeans IsMade Exceeds out names before after status
  make-later before between after Yes same means =
      let made = means.0 in (
        record {
          made = made.made;
          is_made = made.is_made;
          automaton = made.automaton;
          canonical = made.canonical;
          stores = stores-later same made.stores;
        },
        means.1,
      )
  make-later before between after (Undecided limit) same means = (means.0, writes-later same means.1)
  make-later before between after (Fault (Store name)) same means = (means.0, leaves_unknown-later same means.1, means.2)
  make-later before between after (Fault Output) same means = (means.0, means.1, front-later same means.2)
  make-later before between after Memory same means = unchanged-later same means
  make-later before between after (Fault _) same means = absurd means
  make-later before between after _ same means = absurd means
