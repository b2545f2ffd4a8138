-- Lines are cut in one way, and what they give is one.
use Rattle.std.proofs.Common.{◌≡◌, ℕ, ◌+◌, ◌-◌, ◌<◌, List, [], ◌∷◌, ◌++◌, length, take, Result, Ok, refl, sym, ◌∙◌, ap, ap₂, subst, append_assoc, append-nil, arith, length-append}
use Rattle.std.proofs.Math.Seq.{take-append-add}
use Rattle.std.specs.List.{AllByRecursion}
use Rattle.kb_io.specs.Bytes.{newline}
use Rattle.kb_word.specs.Presentations.{PresentationParts}
use Rattle.kb_word.specs.Printed.{text_of_word}
use Rattle.kb_record.specs.Meaning.{WordFault}
use Rattle.kb_record.specs.declared.error.WordError.{WordError}
use Rattle.kb_record.proofs.WordFaults.{one_meaning, no_word_fault}
use Rattle.kb_lines.specs.WordLines.{most_input, IsOneLine, ended, LineGives, blank, word, LineHasFault, LinesGive, IsFunction, EndsWithin, IsFirstRefused}
use Rattle.kb_lines.specs.Streams.{Streams, Sends}
use Rattle.kb_lines.specs.Answered.{AllAnswered, EndedAnswered}
use Rattle.kb_lines.proofs.LineLemmas.{all-append, ended-next}

-- ---- cuts at newlines

-- a line has no newline
no-newline : (line front behind : List ℕ) → IsOneLine line → ¬ (line ≡ front ++ newline ∷ behind)
no-newline [] [] behind one is = cc
no-newline [] (c ∷ front) behind one is = cc
no-newline (b ∷ line) [] behind one is = let same : b ≡ newline = cc in one.0 same
no-newline (b ∷ line) (c ∷ front) behind one is =
    let same : line ≡ front ++ newline ∷ behind = cc in
    no-newline line front behind one.1 same

-- bytes have one first line
one-front : (line other behind after : List ℕ) → IsOneLine line → IsOneLine other
    → line ++ newline ∷ behind ≡ other ++ newline ∷ after → (line ≡ other) × (behind ≡ after)
one-front [] [] behind after one also is = (refl, cc)
one-front [] (c ∷ other) behind after one also is = let same : c ≡ newline = cc in absurd (also.0 same)
one-front (b ∷ line) [] behind after one also is = let same : b ≡ newline = cc in absurd (one.0 same)
one-front (b ∷ line) (c ∷ other) behind after one also is =
    let heads : b ≡ c = cc in
    let tails : line ++ newline ∷ behind ≡ other ++ newline ∷ after = cc in
    let rest = one-front line other behind after one.1 also.1 tails in
    (ap₂ (λ x l. x ∷ l) heads rest.0, rest.1)

-- bytes are cut in one way
pub one-cut : (lines others : List (List ℕ)) (rest last : List ℕ) → AllByRecursion IsOneLine lines → AllByRecursion IsOneLine others
    → IsOneLine rest → IsOneLine last → ended lines ++ rest ≡ ended others ++ last → (lines ≡ others) × (rest ≡ last)
one-cut [] [] rest last each too one also is = (refl, is)
one-cut [] (other ∷ others) rest last each too one also is =
    absurd (no-newline rest other (ended others ++ last) one (is ∙ append_assoc other (newline ∷ ended others) last))
one-cut (line ∷ lines) [] rest last each too one also is =
    absurd (no-newline last line (ended lines ++ rest) also (sym is ∙ append_assoc line (newline ∷ ended lines) rest))
one-cut (line ∷ lines) (other ∷ others) rest last each too one also is =
    let first = one-front line other (ended lines ++ rest) (ended others ++ last) each.0 too.0
    (sym (append_assoc line (newline ∷ ended lines) rest) ∙ is ∙ append_assoc other (newline ∷ ended others) last) in
    let more = one-cut lines others rest last each.1 too.1 one also first.1 in
    (ap₂ (λ l ls. l ∷ ls) first.0 more.0, more.1)

-- ---- what is given

module _ {parts : PresentationParts} {Answers : List ℕ → List ℕ → Type 0} where
  -- a line gives one text
  pub one-line : {line : List ℕ} (given other : List ℕ) → IsFunction Answers → LineGives parts Answers line given
      → LineGives parts Answers line other → given ≡ other
  one-line given other functional (blank none) (blank also) = refl
  one-line given other functional (blank none) (word some meaning answer) = absurd (some none)
  one-line given other functional (word some meaning answer) (blank none) = absurd (some none)
  one-line {line} given other functional (word {w = w} {m = m} some meaning answer) (word {w = v} {m = n} also meant answered) =
      let same_meaning : ◌≡◌ {A = Result (List ℕ) WordFault} (Ok w) (Ok v) = one_meaning line parts.names parts.inverses (Ok w) (Ok v) meaning meant in
      let same : v ≡ w = cc in
      ap (λ a. text_of_word parts.names a ++ newline ∷ []) (functional w m n answer (subst (λ x. Answers x n) same answered))

  -- no line is both answered and refused
  pub not_both : {line given : List ℕ} (fault : WordError) → LineGives parts Answers line given → ¬ LineHasFault parts line fault
  not_both fault (blank none) refused = refused.not_blank none
  not_both {line} fault (word {w = w} some meaning answer) refused =
      refused.named (no_word_fault line parts.names parts.inverses w fault meaning refused.faulty)

-- lines give one text
pub one-text : (parts : PresentationParts) (Answers : List ℕ → List ℕ → Type 0) (lines : List (List ℕ)) (given other : List ℕ)
    → IsFunction Answers → LinesGive parts Answers lines given → LinesGive parts Answers lines other → given ≡ other
one-text parts Answers [] given other functional one also = one ∙ sym also
one-text parts Answers (line ∷ lines) given other functional (first, rest, gives, rest_gives, whole) (first', rest', gives', rest_gives', whole') =
    whole ∙ ap₂ (λ a b. a ++ b) (one-line first first' functional gives gives')
    (one-text parts Answers lines rest rest' functional rest_gives rest_gives') ∙ sym whole'

module _ {parts : PresentationParts} {Answers : List ℕ → List ℕ → Type 0} where
  -- one input gives one text
  pub one-answered : (a b c d : Streams) → IsFunction Answers → (one : AllAnswered parts Answers a b) → (other : AllAnswered parts Answers c d)
      → a.input.left ≡ c.input.left → one.given ≡ other.given
  one-answered a b c d functional one other same =
      let cut = one-cut one.lines other.lines one.last other.last one.cuts.each other.cuts.each one.cuts.open_line other.cuts.open_line
      (sym one.cuts.whole ∙ same ∙ other.cuts.whole) in
      let lines = ap₂ (λ ls l. ls ++ l ∷ []) cut.0 cut.1 in
      one-text parts Answers (other.lines ++ other.last ∷ []) one.given other.given functional
      (subst (λ ls. LinesGive parts Answers ls one.given) lines one.answered) other.answered

  pub one-sent : (a b c d : Streams) → IsFunction Answers → AllAnswered parts Answers a b → AllAnswered parts Answers c d
      → a.input.left ≡ c.input.left → (bytes : List ℕ) × Sends bytes a b × Sends bytes c d
  one-sent a b c d functional one other same =
      let given = one-answered a b c d functional one other same in
      (one.given, one.sent, other.sent ∙ ap (λ g. c.output.written ++ g) (sym given))

-- ---- an input that was answered has no line that is refused

-- lines at the front of bytes are the first of their lines
front-lines : (lines others : List (List ℕ)) (rest last : List ℕ) → AllByRecursion IsOneLine lines → AllByRecursion IsOneLine others
    → IsOneLine last → ended lines ++ rest ≡ ended others ++ last → (more : List (List ℕ)) × (others ≡ lines ++ more)
front-lines [] others rest last each too also is = (others, refl)
front-lines (line ∷ lines) [] rest last each too also is =
    absurd (no-newline last line (ended lines ++ rest) also (sym is ∙ append_assoc line (newline ∷ ended lines) rest))
front-lines (line ∷ lines) (other ∷ others) rest last each too also is =
    let first = one-front line other (ended lines ++ rest) (ended others ++ last) each.0 too.0
    (sym (append_assoc line (newline ∷ ended lines) rest) ∙ is ∙ append_assoc other (newline ∷ ended others) last) in
    let more = front-lines lines others rest last each.1 too.1 also first.1 in
    (more.0, ap₂ (λ l ls. l ∷ ls) (sym first.0) more.1)

module _ (parts : PresentationParts) (Answers : List ℕ → List ℕ → Type 0) where
  -- each of the lines gives something
  gives-at : (lines : List (List ℕ)) (line : List ℕ) (others : List (List ℕ)) (given : List ℕ)
      → LinesGive parts Answers (lines ++ line ∷ others) given → (text : List ℕ) × LineGives parts Answers line text
  gives-at [] line others given (first, rest, gives, rest_gives, whole) = (first, gives)
  gives-at (before ∷ lines) line others given (first, rest, gives, rest_gives, whole) = gives-at lines line others rest rest_gives

  -- lines of which each gives something have none that is refused
  gives-unrefused : (lines : List (List ℕ)) (line bytes : List ℕ) (others : List (List ℕ)) (last : List ℕ) (extra : List (List ℕ))
      (given : List ℕ) (fault : WordError) → AllByRecursion IsOneLine lines → IsOneLine line → AllByRecursion IsOneLine others → IsOneLine last
      → ended (lines ++ line ∷ []) ++ bytes ≡ ended others ++ last → LinesGive parts Answers (others ++ extra) given
      → ¬ LineHasFault parts line fault
  gives-unrefused lines line bytes others last extra given fault each one too also is gives refused =
      let found = front-lines (lines ++ line ∷ []) others bytes last (all-append IsOneLine lines (line ∷ []) each (one, tt)) too also is in
      let same : others ++ extra ≡ lines ++ line ∷ (found.0 ++ extra) =
      ap (λ ls. ls ++ extra) found.1
      ∙ append_assoc (lines ++ line ∷ []) found.0 extra
      ∙ append_assoc lines (line ∷ []) (found.0 ++ extra) in
      let at = gives-at lines line (found.0 ++ extra) given (subst (λ ls. LinesGive parts Answers ls given) same gives) in
      not_both fault at.1 refused

  -- the input is the lines up to the one that is refused, and what is behind its newline
  up_to_newline : (lines : List (List ℕ)) (line bytes input behind : List ℕ) (byte : ℕ) → input ≡ (ended lines ++ line) ++ behind
      → behind ≡ byte ∷ bytes → byte ≡ newline → input ≡ ended (lines ++ line ∷ []) ++ bytes
  up_to_newline lines line bytes input behind byte whole is ends =
      whole ∙ ap (λ b. (ended lines ++ line) ++ b) (is ∙ ap (λ b. b ∷ bytes) ends)
      ∙ append_assoc (ended lines) line (newline ∷ bytes) ∙ ended-next lines line bytes

  none-refused : (before after : Streams) (number : ℕ) (fault : WordError) (behind : List ℕ) → AllAnswered parts Answers before after
      → (refused : IsFirstRefused parts Answers before.input.left number fault) → refused.behind ≡ behind
      → EndsWithin most_input (ended refused.lines ++ refused.line) behind → ⊥
  none-refused before after number fault [] all refused is ends =
      let cut = one-cut all.lines refused.lines all.last refused.line all.cuts.each refused.each all.cuts.open_line refused.one
      (sym all.cuts.whole ∙ refused.whole ∙ ap (λ b. (ended refused.lines ++ refused.line) ++ b) is
      ∙ append-nil (ended refused.lines ++ refused.line)) in
      let gives = gives-at all.lines all.last [] all.given all.answered in
      not_both fault (subst (λ l. LineGives parts Answers l gives.0) cut.1 gives.1) refused.faulty
  none-refused before after number fault (byte ∷ bytes) all refused is ends =
      gives-unrefused refused.lines refused.line bytes all.lines all.last (all.last ∷ []) all.given fault
      refused.each refused.one all.cuts.each all.cuts.open_line
      (sym (up_to_newline refused.lines refused.line bytes before.input.left refused.behind byte refused.whole is ends.0) ∙ all.cuts.whole)
      all.answered refused.faulty

  -- an input that was answered has no line that is refused
  pub answered-unrefused : (before after : Streams) (number : ℕ) (fault : WordError) → AllAnswered parts Answers before after
      → ¬ IsFirstRefused parts Answers before.input.left number fault
  answered-unrefused before after number fault all refused =
      none-refused before after number fault refused.behind all refused refl refused.ends

  none-refused_within : (before after : Streams) (number : ℕ) (fault : WordError) (behind : List ℕ) → most_input < length before.input.left
      → EndedAnswered parts Answers (take most_input before.input.left) before after
      → (refused : IsFirstRefused parts Answers before.input.left number fault) → refused.behind ≡ behind
      → EndsWithin most_input (ended refused.lines ++ refused.line) behind → ⊥
  none-refused_within before after number fault [] more all refused is ends =
      let size = ap length (refused.whole ∙ ap (λ b. (ended refused.lines ++ refused.line) ++ b) is
      ∙ append-nil (ended refused.lines ++ refused.line)) in
      omega (arith, more, ends, size)
  none-refused_within before after number fault (byte ∷ bytes) more all refused is ends =
      let front : List ℕ = ended (refused.lines ++ refused.line ∷ []) in
      let whole : before.input.left ≡ front ++ bytes =
      up_to_newline refused.lines refused.line bytes before.input.left refused.behind byte refused.whole is ends.0 in
      let size : length (ended refused.lines ++ refused.line) + 1 ≡ length front =
      sym (length-append (ended refused.lines ++ refused.line) (newline ∷ []))
      ∙ ap length (append_assoc (ended refused.lines) refused.line (newline ∷ []) ∙ ended-next refused.lines refused.line []
      ∙ append-nil front) in
      let short : length front + (most_input - length front) ≡ most_input = let less = ends.1 in omega (arith, less, size) in
      let taken : take most_input before.input.left ≡ front ++ take (most_input - length front) bytes =
      ap (λ n. take n before.input.left) (sym short)
      ∙ ap (λ b. take (length front + (most_input - length front)) b) whole
      ∙ take-append-add front bytes (most_input - length front) in
      gives-unrefused refused.lines refused.line (take (most_input - length front) bytes) all.lines all.rest [] all.given fault
      refused.each refused.one all.cuts.each all.cuts.open_line
      (sym taken ∙ all.cuts.whole)
      (subst (λ ls. LinesGive parts Answers ls all.given) (sym (append-nil all.lines)) all.answered) refused.faulty

  -- nor has one that is too long, where all lines were answered that end in the bytes that may be read
  pub too_long-unrefused : (before after : Streams) (number : ℕ) (fault : WordError) → most_input < length before.input.left
      → EndedAnswered parts Answers (take most_input before.input.left) before after
      → ¬ IsFirstRefused parts Answers before.input.left number fault
  too_long-unrefused before after number fault more all refused =
      none-refused_within before after number fault refused.behind more all refused refl refused.ends
