-- A name is that of one of the texts, or of none.
use Rattle.std.proofs.Common.{◌≡◌, ◌⊎◌, inl, inr, Bool, true, false, List, [], ◌∷◌, ℕ, nat_eq, refl, arith}
use Rattle.std.specs.Bool.{Decides}
use Rattle.std.specs.Cmp.Lexicographic.{pointwise, bytes_decides}
use Rattle.std.specs.List.{Contains}
use Rattle.std.proofs.lemmas.Bool.Decides.{not_from_Decides}
use Rattle.std.proofs.lemmas.List.Elements.{Contains-append_left, Contains-append_right, Contains-push}
use Rattle.std.proofs.lemmas.Map.Made.{Contains-tail}
use Rattle.kb_task.specs.Stores.{Text, names_of}

-- one of the texts has this name
abbrev pub IsNamed : List Text → List ℕ → Type 0
IsNamed texts name = (text : Text) × Contains texts text × (text.name ≡ name)

named_next : (text : Text) (texts : List Text) (name : List ℕ) (same : Bool)
    → Decides same (text.name ≡ name)
    → IsNamed texts name ⊎ (¬ Contains (names_of texts) name)
    → IsNamed (text ∷ texts) name ⊎ (¬ Contains (names_of (text ∷ texts)) name)
named_next text texts name true decides among =
    inl (
      text,
      Contains-append_left (text ∷ []) texts text (Contains-push [] text),
      decides.0 refl,
    )
named_next text texts name false decides (inl (one, here, is)) =
    inl (one, Contains-append_right (text ∷ []) texts one here, is)
named_next text texts name false decides (inr none) =
    inr (λ here. none (Contains-tail text.name (names_of texts) name
    (not_from_Decides false decides refl) here))

pub named_or_not : (texts : List Text) (name : List ℕ)
    → IsNamed texts name ⊎ (¬ Contains (names_of texts) name)
named_or_not [] name = inr (λ here. let below = here.1 in omega (arith, below))
named_or_not (text ∷ texts) name =
    named_next text texts name (pointwise nat_eq text.name name) (bytes_decides text.name name)
    (named_or_not texts name)
