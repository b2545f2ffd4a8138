-- The names of fields that a pass over tokens meets, each with those before it in its record.
use Rattle.std.specs.Prelude.{◌≡◌, ◌↔◌, ℕ, List, [], ◌∷◌, ◌++◌, Bool, true, false, Contains, Option, Some, None}
use Rattle.std.specs.Borrow.{Bor}
use Rattle.std.specs.BTreeSet.{BTreeSet, contains}
use Rattle.std.specs.Cmp.Lexicographic.{slice_cmp}
use Rattle.std.specs.Ordering.{nat_cmp}
use Rattle.std.proofs.Common.{Ordering}
use Rattle.kb_lexing.specs.Token.{Token, name, assign, open_round, close_round, open_square, close_square, rec_word}
use Rattle.kb_record.specs.Repeats.{Naming, IsFirst, NoneIs}
use Rattle.kb_record.specs.declared.repeats.Open.{Open}
use Rattle.kb_record.specs.declared.repeats.Step.{Step}
use Rattle.kb_record.specs.declared.repeats.Step.TheVariants as steps
use Rattle.kb_record.specs.declared.repeats.Pass.{Pass}
use Rattle.kb_record.specs.declared.repeats.Pass.TheVariants as passes

-- an open bracket: of a record's, the names of its fields that were passed
abbrev pub Bracket : Type 0
Bracket = Option (List (List ℕ))

-- the names that are met within open brackets: the innermost, and those around it
abbrev pub Names : Type 0
Names = Bracket → List Bracket → List Naming

-- a bracket that was just opened, a record's or another
abbrev pub opened : Bool → Bracket
opened true = Some []
opened false = None

-- those behind the bracket that closes the innermost; none behind the last
abbrev pub closed : Names → List Bracket → List Naming
closed next [] = []
closed next (f ∷ fs) = next f fs

-- a field's name, and those behind it
abbrev pub behind_name : List ℕ → Names → Names
behind_name text next None fs = next None fs
behind_name text next (Some before) fs =
    record { name = text; before = before } ∷ next (Some (before ++ text ∷ [])) fs

-- the names that are met in the tokens
abbrev pub names_met : List Token → Names
names_met [] f fs = []
names_met (rec_word ∷ open_round ∷ tokens) f fs = names_met tokens (Some []) (f ∷ fs)
names_met (open_round ∷ tokens) f fs = names_met tokens None (f ∷ fs)
names_met (open_square ∷ tokens) f fs = names_met tokens None (f ∷ fs)
names_met (close_round ∷ tokens) f fs = closed (names_met tokens) fs
names_met (close_square ∷ tokens) f fs = closed (names_met tokens) fs
names_met (name text ∷ assign ∷ tokens) f fs = behind_name text (names_met tokens) f fs
names_met (_ ∷ tokens) f fs = names_met tokens f fs

-- what opens a record, or a list
abbrev pub opening : Bool → List Token
opening true = rec_word ∷ open_round ∷ []
opening false = open_square ∷ []

-- those that are met from a step on
abbrev pub stepped : Step → Names → Names
stepped (steps.Opens of_record) next f fs = next (opened of_record) (f ∷ fs)
stepped steps.Closes next f fs = closed next fs
stepped (steps.Names text) next f fs = behind_name text.now next f fs
stepped steps.Other next f fs = next f fs

-- the order of texts
abbrev pub text_cmp : Bor (List ℕ) → Bor (List ℕ) → Ordering
text_cmp x y = slice_cmp nat_cmp x.now y.now

-- whether a set of texts has the text
abbrev pub has : BTreeSet (Bor (List ℕ)) → List ℕ → Bool
has seen text = contains text_cmp seen (record { ref_ptr = (0, 0); now = text })

-- the code's bracket is this one
abbrev pub IsBracket : Option (BTreeSet (Bor (List ℕ))) → Bracket → Type 0
IsBracket None None = Unit {0}
IsBracket (Some seen) (Some names) = (text : List ℕ) → (has seen text ≡ true) ↔ Contains names text
IsBracket _ _ = ⊥

-- the code's brackets, the innermost last, are these, the innermost first
abbrev pub AreBrackets : List (Option (BTreeSet (Bor (List ℕ)))) → List Bracket → Type 0
AreBrackets items [] = items ≡ []
AreBrackets items (f ∷ fs) =
    (others : List (Option (BTreeSet (Bor (List ℕ))))) × (last : Option (BTreeSet (Bor (List ℕ))))
    × (items ≡ others ++ last ∷ []) × IsBracket last f × AreBrackets others fs

-- these brackets are open
abbrev pub AreOpen : Open → Bracket → List Bracket → Type 0
AreOpen state f fs = IsBracket state.inner f × AreBrackets state.outer.items fs

-- what is the first of the names, or none of them, is so of all
pub record GoesOn (names all : List Naming) : Type 0 where
  pub first : (name : List ℕ) → IsFirst names name → IsFirst all name
  pub none : NoneIs names → NoneIs all

-- how a pass goes on that meets these names, and behind it those that are next
abbrev pub Continues : Pass → Open → List Naming → Names → Type 0
Continues passes.On state names next =
    (f : Bracket) × (fs : List Bracket) × AreOpen state f fs × GoesOn (next f fs) names
Continues passes.Ended state names next = NoneIs names
Continues (passes.Repeated text) state names next = IsFirst names text.now
