-- The rule of the versions. A version is known by its state. There is one list of the states of versions, in the order
-- in which they were published: what is shown has its last one, the publisher knows it all, and what each thread has
-- seen begins it. It is empty until publishing has begun.
use Rattle.std.specs.Prelude.{◌≡◌, ◌≢◌, ℕ, ◌+◌, ◌-◌, ◌^◌, min, true, false, cond}
use Rattle.std.specs.Prelude.{List, [], ◌∷◌, ◌++◌, Option, Some, None}
use Rattle.std.specs.List.{last_or}
use mathlib.Core.List.{IsPrefix}
use mathlib.Core.Option.{some}
use lib.ListN.{get_elem?}
use Rattle.kb_publish.specs.declared.versions.Shown.{Shown}
use Rattle.kb_publish.specs.declared.versions.View.{View}
use Rattle.kb_publish.specs.declared.versions.Entry.{Entry}
use Rattle.kb_publish.specs.declared.versions.Entry.TheVariants.{Begins}

-- one refusal more, as far as the count goes
abbrev pub counted : ℕ → ℕ
counted refusals = min (refusals + 1) (2 ^ 64 - 1)

module _ {S : Type 0} where
  -- the last one of a list, where it is not empty
  abbrev pub last : List S → Option S
  last = last_or None

  -- what a reader knows that has seen these states
  abbrev pub reader_of : List S → View S
  reader_of seen = record { publishes = false; seen = seen }

  -- what the publisher knows that has published these states
  abbrev pub publisher_of : List S → View S
  publisher_of seen = record { publishes = true; seen = seen }

  -- who comes anew has seen nothing
  abbrev pub newcomer : View S
  newcomer = reader_of []

  -- who publishes has seen all states, and there is one
  abbrev pub KnowsAll : List S → View S → Type 0
  KnowsAll all v = v.publishes ≡ true → (v.seen ≡ all) × (all ≢ [])

  -- a thread at this place knows this
  abbrev pub At : List (View S) → ℕ → View S → Type 0
  At views place v = get_elem? views place ≡ some v

module _ {V S : Type 0} (state : V → S) where
  -- the state that is shown, where publishing has begun
  abbrev pub state_of : Shown V → Option S
  state_of shown = cond shown.begun (Some (state shown.version)) None

  -- The rule, of what is shown and of what the threads know. There is one list of states. Its last one is shown, what
  -- each thread has seen begins it, who publishes has seen it all, and at most one thread publishes.
  pub record IsOneList (shown : Shown V) (views : List (View S)) : Type 0 where
    pub all : List S
    pub is_shown : last all ≡ state_of shown
    pub begins : (place : ℕ) (v : View S) → At views place v → IsPrefix v.seen all
    pub knows : (place : ℕ) (v : View S) → At views place v → KnowsAll all v
    pub single : (place other : ℕ) (v w : View S) → At views place v → At views other w
        → v.publishes ≡ true → w.publishes ≡ true → place ≡ other

  -- the publisher shows a further version, and knows the states of all versions up to it
  abbrev pub Publishes : View S → Shown V → Shown V → View S → Type 0
  Publishes v before after w = w ≡ publisher_of (v.seen ++ state after.version ∷ [])

  -- a reader sees what is shown: the list that it has seen then begins with what it had seen, and ends in what is
  -- shown
  abbrev pub Looks : View S → Shown V → Shown V → View S → Type 0
  Looks v before after w = IsPrefix v.seen w.seen × (last w.seen ≡ state_of after)

-- who publishes next, with these entries told: the publisher; or the first to publish, where nothing but that
-- publishing begins is told
pub data MayPublish {V S O : Type 0} (v : View S) (shown : Shown V)
    (entries : List (Entry O)) : Type 0 where
  further : v.publishes ≡ true → shown.begun ≡ true → MayPublish v shown entries
  first : v.seen ≡ [] → shown.begun ≡ false → entries ≡ Begins ∷ [] → MayPublish v shown entries
