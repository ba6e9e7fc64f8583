use Rattle.wtf8.proofs.Common.{◌≡◌, ◌∙◌, ◌++◌, [], ap, sym, subst, rules, append-nil, append_assoc, take, drop, option_to_list, IsForm, MeetsAsPair}
use Rattle.wtf8.specs.private.EncodedBytes.{BecomesOrKeeps}
use Rattle.wtf8.specs.private.Middles.{middle_units}
use Rattle.wtf8.proofs.lemmas.codec.Readings.{unpaired-nil_left, unpaired-nil_right}
use Rattle.wtf8.proofs.lemmas.strings.Editing.{three_forms}
use Rattle.wtf8.proofs.strings.editing.replace.Goals as goal

pub returns-then-is_empty : goal.returns-then-is_empty
returns-then-is_empty g c m f =
    let old = c.args.bytes.now.items in
    let a = take c.both-joined.result.len c.both-joined.result.units in
    let none : middle_units c.args.middle ≡ [] = search rules in
    let same : a ++ ([] ++ []) ≡ option_to_list c.args.head ++ (middle_units c.args.middle ++ option_to_list c.args.tail) =
    append-nil a ∙ (c.both-joined.ensures.units ∙ ap (λ u. option_to_list c.args.head ++ (u ++ option_to_list c.args.tail)) (sym none)) in
    let all = three_forms a [] [] f same unpaired-nil_right unpaired-nil_left in
    subst (λ z. BecomesOrKeeps c.args.bytes.now (take c.args.begin old ++ (z ++ drop c.args.end old)) c.replace_bytes.new.bytes c.replace_bytes.result)
    all.joined (c.replace_bytes.ensures all.first all.second all.third all.first_form
    (subst (IsForm all.second) (sym none) all.second_form) all.third_form)

pub returns : goal.returns
returns g c m f =
    let old = c.args.bytes.now.items in
    let before = c.take_pair_before in
    let after = c.take_pair_after in
    let a = take before.result.0.len before.result.0.units in
    let b = middle_units after.result.0 in
    let d = take after.result.1.len after.result.1.units in
    let tail = option_to_list c.args.tail in
    let same : a ++ (b ++ d) ≡ option_to_list c.args.head ++ (middle_units c.args.middle ++ tail) =
    ap (λ z. a ++ z) after.ensures.joined ∙ (sym (append_assoc a (middle_units before.result.1) tail) ∙ (ap (λ z. z ++ tail) before.ensures.joined
    ∙ append_assoc (option_to_list c.args.head) (middle_units c.args.middle) tail)) in
    let all = three_forms a b d f same (λ x. before.ensures.apart tail (subst (MeetsAsPair a) after.ensures.joined x)) after.ensures.apart in
    subst (λ z. BecomesOrKeeps c.args.bytes.now (take c.args.begin old ++ (z ++ drop c.args.end old)) c.replace_bytes-2.new.bytes c.replace_bytes-2.result)
    all.joined (c.replace_bytes-2.ensures all.first all.second all.third all.first_form all.second_form all.third_form)
