-- Fields of a line.
use Rattle.std.proofs.Common.{◌≡◌, ℕ, List, [], ◌∷◌, ◌++◌, ◌∙◌, append_assoc}

fields : (before u v x : List ℕ) → (((before ++ (u ++ 32 ∷ [])) ++ (v ++ 32 ∷ [])) ++ x) ++ 32 ∷ [] ≡ before ++ (u ++ 32 ∷ (v ++ 32 ∷ (x ++ 32 ∷ [])))
fields before u v x = simp append_assoc

-- three fields, each with a blank behind it
pub three_fields : (before u v x one two three after : List ℕ) → one ≡ before ++ (u ++ 32 ∷ []) → two ≡ one ++ (v ++ 32 ∷ []) → three ≡ two ++ x
    → after ≡ three ++ 32 ∷ [] → after ≡ before ++ (u ++ 32 ∷ (v ++ 32 ∷ (x ++ 32 ∷ [])))
three_fields before u v x one two three after first second third last =
    let joined : after ≡ (((before ++ (u ++ 32 ∷ [])) ++ (v ++ 32 ∷ [])) ++ x) ++ 32 ∷ [] = cc in joined ∙ fields before u v x
