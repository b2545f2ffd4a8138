use Rattle.std.proofs.Common.{rules, ◌≡◌, ◌∷◌, ◌++◌, [], ◌+◌, ◌-◌, ◌*◌, ◌<◌, length, take, get_or, ap, ◌∙◌, arith}
use Rattle.std.proofs.lemmas.List.{get_or_read}
use Rattle.kb_wordreader.proofs.PowerLemmas.{cut, one_more, all_of_it, place_within, all_few, saturated}
use Rattle.kb_wordreader.proofs.power.repeat_end.Goals as goal

pub loop-place-init : goal.loop-place-init
loop-place-init c =
    let old = c.args.word.now in
    let same : c.saturating_add-len.result ≡ c.args.start + c.args.count * (length old - c.args.start) =
    saturated c.args.start c.args.count (length old - c.args.start) c.saturating_mul.result c.saturating_add-len.result (search rules) c.saturating_add-len.ensures c.if-len.false in
    c.truncate.ensures ∙ ap (λ n. take n old) same ∙ cut old c.args.start c.args.count c.requires

pub bounds-letters-place : goal.bounds-letters-place
bounds-letters-place c =
    let old = c.args.word.now in
    let l = c.loop-place in
    let same : c.saturating_add-len.result ≡ c.args.start + c.args.count * (length old - c.args.start) =
    saturated c.args.start c.args.count (length old - c.args.start) c.saturating_mul.result c.saturating_add-len.result (search rules) c.saturating_add-len.ensures c.if-len.false in
    let below : l.place < c.args.start + c.args.count * (length old - c.args.start) - (length old - c.args.start) = omega (arith, same, c.len.ensures, c.saturating_sub-place-end.ensures, c.loop-place-test.true) in
    let within = place_within old c.args.start c.args.count c.requires l.word l.place l.invariant l.auto.place below in
    omega (arith, ap length c.letters.ensures.letters, within)

pub loop-place-preserved : goal.loop-place-preserved
loop-place-preserved c =
    let old = c.args.word.now in
    let l = c.loop-place in
    let same : c.saturating_add-len.result ≡ c.args.start + c.args.count * (length old - c.args.start) =
    saturated c.args.start c.args.count (length old - c.args.start) c.saturating_mul.result c.saturating_add-len.result (search rules) c.saturating_add-len.ensures c.if-len.false in
    let below : l.place < c.args.start + c.args.count * (length old - c.args.start) - (length old - c.args.start) = omega (arith, same, c.len.ensures, c.saturating_sub-place-end.ensures, c.loop-place-test.true) in
    let x = c.index-letters-place.result in
    let pushed : c.push.new.self ≡ l.word ++ x ∷ [] = search rules in
    let within = place_within old c.args.start c.args.count c.requires l.word l.place l.invariant l.auto.place below in
    let read : x ≡ get_or c.letters.result.now l.place 0 = get_or_read c.letters.result.now l.place x (omega (arith, ap length c.letters.ensures.letters, within)) c.index-letters-place.is 0 in
    let grown : c.push.new.self ≡ l.word ++ get_or l.word l.place 0 ∷ [] = pushed ∙ ap (λ y. l.word ++ y ∷ []) (read ∙ ap (λ w. get_or w l.place 0) c.letters.ensures.letters) in
    one_more old c.args.start c.args.count c.requires l.word c.push.new.self l.place l.invariant l.auto.place below grown

pub returns-clause-repeated : goal.returns-clause-repeated
returns-clause-repeated c =
    let old = c.args.word.now in
    let l = c.loop-place in
    let same : c.saturating_add-len.result ≡ c.args.start + c.args.count * (length old - c.args.start) =
    saturated c.args.start c.args.count (length old - c.args.start) c.saturating_mul.result c.saturating_add-len.result (search rules) c.saturating_add-len.ensures c.if-len.false in
    all_of_it old c.args.start c.args.count c.requires l.word l.place l.invariant (omega (arith, same, c.len.ensures, c.saturating_sub-place-end.ensures, c.loop-place-test.false)) (omega (arith, same, c.if-len.false))

pub returns-clause-few : goal.returns-clause-few
returns-clause-few c =
    let old = c.args.word.now in
    let l = c.loop-place in
    let same : c.saturating_add-len.result ≡ c.args.start + c.args.count * (length old - c.args.start) =
    saturated c.args.start c.args.count (length old - c.args.start) c.saturating_mul.result c.saturating_add-len.result (search rules) c.saturating_add-len.ensures c.if-len.false in
    all_few old c.args.start c.args.count c.requires l.word l.place l.invariant (omega (arith, same, c.if-len.false))
