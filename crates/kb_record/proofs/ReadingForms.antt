-- What a reading tells of the tokens: the tree that it gives has them; where it can't go on, or a bracket is too
-- deep, what was passed begins some tree's tokens.
use Rattle.std.proofs.Common.{◌≡◌, ℕ, suc, ◌+◌, ◌≤◌, ℤ, List, [], ◌∷◌, ◌++◌, refl, sym, ap, ◌∙◌, subst, arith, append_assoc, append-nil, ⊎_elim}
use Rattle.kb_lexing.specs.Token.{Token, name, number, comma, rec_word}
use Rattle.kb_lexing.specs.Possible.{IsExpected}
use Rattle.kb_lexing.specs.declared.place.Expected.{Expected}
use Rattle.kb_lexing.specs.declared.place.Expected.TheVariants as wanted
use Rattle.kb_record.specs.Nesting.{open_behind}
use Rattle.kb_record.specs.Reading.{Reading, read, unexpected, too_deep, reading_map}
use Rattle.kb_record.proofs.OpenBrackets.{Within}
use Rattle.kb_record.proofs.LastRec.{EndsInRec, ends_split}
use Rattle.kb_record.proofs.PlainTokens.{ArePlain, all_plain}

-- how trees of a kind are written, which of them there are, and how deep they nest
pub record Form (A : Type 0) : Type 1 where
  pub spelled : A → List Token
  pub Good : A → Type 0
  pub nesting : A → ℕ

pub record Stands {A : Type 0} (F : Form A) (depth : ℕ) (tokens rest : List Token) (tree : A) : Type 0 where
  pub whole : tokens ≡ F.spelled tree ++ rest
  pub good : F.Good tree
  pub shallow : F.nesting tree ≤ depth

-- the tokens begin those of some tree, and what completes them is plain
pub record Begins {A : Type 0} (F : Form A) (tokens : List Token) : Type 0 where
  pub more : List Token
  pub plain : ArePlain more
  pub tree : A
  pub good : F.Good tree
  pub formed : tokens ++ more ≡ F.spelled tree

-- the last token of those passed, where another one might stand in its place
abbrev pub last_of : Expected → List Token
last_of wanted.Fields = rec_word ∷ []
last_of _ = []

-- a token that may stand in its place, or behind what was passed
abbrev pub MayStand : Expected → Token → Type 0
MayStand wanted.Fields (name text) = Unit {0}
MayStand wanted.Fields _ = ⊥
MayStand expected token = IsExpected expected token

-- the reading can't go on: what was passed begins some tree's tokens, and so it does with what may stand there
pub record Stuck {A : Type 0} (F : Form A) (opened : ℕ) (expected : Expected) (tokens rest : List Token) : Type 0 where
  pub kept : List Token
  pub whole : tokens ≡ kept ++ (last_of expected ++ rest)
  pub begun : Begins F (kept ++ last_of expected)
  pub others : (token : Token) → MayStand expected token → Begins F (kept ++ token ∷ [])
  pub low : (m o : ℕ) → o + opened ≤ suc m → Within m o (kept ++ (last_of expected ++ comma ∷ []))
  pub numbered : expected ≡ wanted.Dots → (before : List Token) × (z : ℤ) × (kept ≡ before ++ number z ∷ [])
  pub unrec : EndsInRec kept → ⊥
  pub not_rec : expected ≡ wanted.Rec → ⊥

-- what was passed opens so many brackets, and begins some tree's tokens
pub record Deepens {A : Type 0} (F : Form A) (opened : ℕ) (tokens rest : List Token) : Type 0 where
  pub consumed : List Token
  pub whole : tokens ≡ consumed ++ rest
  pub opens : (o : ℕ) → open_behind o consumed ≡ o + opened
  pub begun : Begins F consumed
  pub low : (m o : ℕ) → o + opened ≤ suc m → Within m o consumed

abbrev pub Meets : {A : Type 0} → Form A → ℕ → ℕ → List Token → Reading A → Type 0
Meets F depth opened tokens (read tree rest) = Stands F depth tokens rest tree
Meets F depth opened tokens (unexpected expected rest) = Stuck F opened expected tokens rest
Meets F depth opened tokens (too_deep rest) = Deepens F opened tokens rest

pub meets_as : {A : Type 0} (F : Form A) (d k : ℕ) (tokens : List Token) (whole reading : Reading A) → whole ≡ reading → Meets F d k tokens reading → Meets F d k tokens whole
meets_as F d k tokens whole reading e h = let P : Reading _ → Type 0 = λ r. Meets F d k tokens r in subst P (sym e) h

-- a form within another, between other tokens
pub record Embeds {A B : Type 0} (F : Form A) (G : Form B) (before after : List Token) (levels opened : ℕ) (make : A → B) : Type 0 where
  pub spelled : (tree : A) → F.Good tree → G.spelled (make tree) ≡ before ++ (F.spelled tree ++ after)
  pub good : (tree : A) → F.Good tree → G.Good (make tree)
  pub opens : (o : ℕ) (tokens : List Token) → open_behind o (before ++ tokens) ≡ open_behind (o + levels) tokens
  pub low : (m o : ℕ) (tokens : List Token) → o + opened ≤ suc m → Within m (o + levels) tokens → Within m o (before ++ tokens)
  pub plain : ArePlain after
  pub unrec : EndsInRec before → ⊥

-- with nothing before it
pub here : {A B : Type 0} (F : Form A) (G : Form B) (after : List Token) (k : ℕ) (make : A → B) → ((tree : A) → F.Good tree → G.spelled (make tree) ≡ F.spelled tree ++ after) → ((tree : A) → F.Good tree → G.Good (make tree)) → ArePlain after
    → Embeds F G [] after 0 k make
here F G after k make spelled good plain = record {
  spelled = spelled;
  good = good;
  opens = λ o ts. (let e : o ≡ o + 0 = omega arith in ap (λ m. open_behind m ts) e);
  low = λ m o ts h w. (let e : o + 0 ≡ o = omega arith in let P : ℕ → Type 0 = λ n. Within m n ts in subst P e w);
  plain = plain;
  unrec = λ h. h;
}

begins_as : {A : Type 0} (F : Form A) (tokens others : List Token) → tokens ≡ others → Begins F others → Begins F tokens
begins_as F tokens others e h = let P : List Token → Type 0 = λ ts. Begins F ts in subst P (sym e) h

begins_in : {A B : Type 0} (F : Form A) (G : Form B) (before after : List Token) (j k : ℕ) (make : A → B) (tokens : List Token) → Embeds F G before after j k make → Begins F tokens → Begins G (before ++ tokens)
begins_in F G before after j k make tokens m h = record {
  more = h.more ++ after;
  plain = all_plain h.more after h.plain m.plain;
  tree = make h.tree;
  good = m.good h.tree h.good;
  formed = append_assoc before tokens (h.more ++ after) ∙ ap (λ ts. before ++ ts) (sym (append_assoc tokens h.more after) ∙ ap (λ ts. ts ++ after) h.formed) ∙ sym (m.spelled h.tree h.good);
}

low_in : {A B : Type 0} (F : Form A) (G : Form B) (before after : List Token) (j k k' : ℕ) (make : A → B) (tokens : List Token) → Embeds F G before after j k' make → j + k ≡ k'
    → ((m o : ℕ) → o + k ≤ suc m → Within m o tokens) → (m o : ℕ) → o + k' ≤ suc m → Within m o (before ++ tokens)
low_in F G before after j k k' make tokens m e h n o le = m.low n o tokens le (h n (o + j) (omega arith))

pub deepen : {A B : Type 0} (F : Form A) (G : Form B) (before after : List Token) (j k k' : ℕ) (make : A → B) (tokens inside rest : List Token) → Embeds F G before after j k' make → j + k ≡ k' → tokens ≡ before ++ inside
    → Deepens F k inside rest → Deepens G k' tokens rest
deepen F G before after j k k' make tokens inside rest m e w h = record {
  consumed = before ++ h.consumed;
  whole = w ∙ ap (λ ts. before ++ ts) h.whole ∙ sym (append_assoc before h.consumed rest);
  opens = λ o. m.opens o h.consumed ∙ h.opens (o + j) ∙ omega arith;
  begun = begins_in F G before after j k' make h.consumed m h.begun;
  low = low_in F G before after j k k' make h.consumed m e h.low;
}

pub stick : {A B : Type 0} (F : Form A) (G : Form B) (before after : List Token) (j k k' : ℕ) (make : A → B) (expected : Expected) (tokens inside rest : List Token) → Embeds F G before after j k' make → j + k ≡ k' → tokens ≡ before ++ inside
    → Stuck F k expected inside rest → Stuck G k' expected tokens rest
stick F G before after j k k' make expected tokens inside rest m e w h =
    let kept = before ++ h.kept in
    let split : (behind : List Token) → kept ++ behind ≡ before ++ (h.kept ++ behind) = append_assoc before h.kept in
    record {
      kept = kept;
      whole = w ∙ ap (λ ts. before ++ ts) h.whole ∙ sym (split (last_of expected ++ rest));
      begun = begins_as G _ _ (split (last_of expected)) (begins_in F G before after j k' make (h.kept ++ last_of expected) m h.begun);
      others = λ token may. begins_as G _ _ (split (token ∷ [])) (begins_in F G before after j k' make (h.kept ++ token ∷ []) m (h.others token may));
      low = λ n o le. (let P : List Token → Type 0 = λ ts. Within n o ts in subst P (sym (split (last_of expected ++ comma ∷ []))) (low_in F G before after j k k' make (h.kept ++ (last_of expected ++ comma ∷ [])) m e h.low n o le));
      numbered = λ dots. (let found = h.numbered dots in (before ++ found.0, found.1, ap (λ ts. before ++ ts) found.2 ∙ sym (append_assoc before found.0 (number found.1 ∷ []))));
      unrec = λ ends. ⊎_elim m.unrec h.unrec (ends_split before h.kept ends);
      not_rec = h.not_rec;
    }

pub stand : {A B : Type 0} (F : Form A) (G : Form B) (before : List Token) (j d d' k' : ℕ) (make : A → B) (tokens inside rest : List Token) (tree : A) → Embeds F G before [] j k' make → tokens ≡ before ++ inside → (F.nesting tree ≤ d → G.nesting (make tree) ≤ d')
    → Stands F d inside rest tree → Stands G d' tokens rest (make tree)
stand F G before j d d' k' make tokens inside rest tree m w nest h = record {
  whole = w ∙ ap (λ ts. before ++ ts) (h.whole ∙ ap (λ ts. ts ++ rest) (sym (append-nil (F.spelled tree)))) ∙ sym (append_assoc before (F.spelled tree ++ []) rest) ∙ ap (λ ts. ts ++ rest) (sym (m.spelled tree h.good));
  good = m.good tree h.good;
  shallow = nest h.shallow;
}

pub meets_in : {A B : Type 0} (F : Form A) (G : Form B) (before : List Token) (j d d' k k' : ℕ) (make : A → B) (tokens inside : List Token) (reading : Reading A) → Embeds F G before [] j k' make → j + k ≡ k' → tokens ≡ before ++ inside
    → ((tree : A) → F.nesting tree ≤ d → G.nesting (make tree) ≤ d') → Meets F d k inside reading → Meets G d' k' tokens (reading_map make reading)
meets_in F G before j d d' k k' make tokens inside (read tree rest) m e w nest h = stand F G before j d d' k' make tokens inside rest tree m w (nest tree) h
meets_in F G before j d d' k k' make tokens inside (unexpected expected rest) m e w nest h = stick F G before [] j k k' make expected tokens inside rest m e w h
meets_in F G before j d d' k k' make tokens inside (too_deep rest) m e w nest h = deepen F G before [] j k k' make tokens inside rest m e w h

pub map_same : {A : Type 0} (reading : Reading A) → reading ≡ reading_map (λ tree. tree) reading
map_same (read tree rest) = refl
map_same (unexpected expected rest) = refl
map_same (too_deep rest) = refl

pub map_twice : {A B C : Type 0} (f : A → B) (g : B → C) (reading : Reading A) → reading_map g (reading_map f reading) ≡ reading_map (λ tree. g (f tree)) reading
map_twice f g (read tree rest) = refl
map_twice f g (unexpected expected rest) = refl
map_twice f g (too_deep rest) = refl
