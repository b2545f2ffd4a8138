-- What a normal form says of the left sides in a word.
use Rattle.std.proofs.Common.{◌≡◌, ℕ, List, [], ◌∷◌, length, refl, sym}
use Rattle.kb_word.specs.Words.{Pair, IsFactor}
use Rattle.kb_word.specs.Path.{Linked}
use Rattle.kb_word.specs.Rewriting.{FirstRewrite, NormalForm}
use Rattle.kb_proof.specs.Verifying.{HasLeftSide}

left_side_of : {rules : List Pair} {w v : List ℕ} → FirstRewrite rules w v → HasLeftSide rules w
left_side_of {w = w} first =
    let factor : IsFactor w first.rule.0 = (length first.before, record { before = first.before; after = first.after; whole = first.from; at = refl }) in
    record { rule = first.rule; is_rule = (first.index, first.is_rule); factor = factor }

moved : (rules : List Pair) (w m : List ℕ) (steps : List (List ℕ)) → Linked (FirstRewrite rules) w steps m → (m ≡ w → ⊥)
    → HasLeftSide rules w
moved rules w m [] same apart = absurd (apart (sym same))
moved rules w m (next ∷ rest) linked apart = left_side_of linked.0

-- a word that its normal form isn't has a left side in it
pub leaves_not : {rules : List Pair} {w m : List ℕ} → NormalForm rules w m → (m ≡ w → ⊥) → HasLeftSide rules w
leaves_not {rules = rules} {w = w} {m = m} normal apart = moved rules w m normal.path.steps normal.path.linked apart
