use Rattle.std.proofs.Common.{◌≡◌, ◌∙◌, ℕ, ◌+◌, ◌-◌, List, ◌++◌, ap}
use Rattle.std.specs.Prelude.{string_bytes}
use Rattle.tape_words.specs.Answers.{counted}
use Rattle.word_cmp.specs.DifferenceRows.{range_text}
use Rattle.tape_words.specs.declared.wording.TheConstants.{BYTE, BYTES}
use Rattle.word_cmp.proofs.DifferenceRows.{eight}
use Rattle.word_cmp.proofs.row_text.push_range.Goals as goal

pub returns : goal.returns
unfolding range_text
returns c =
    let count : string_bytes c.push_count.new.words ≡ string_bytes c.push_str-2.new.self ++ counted (c.args.last - c.args.first + 1) BYTE.now BYTES.now =
    c.in_ok-push_count.ensures ∙ ap (λ (n : ℕ). string_bytes c.push_str-2.new.self ++ counted (n + 1) BYTE.now BYTES.now) c.saturating_sub.ensures in
    let named : string_bytes c.push_str-4.new.self ≡ string_bytes c.push_str-3.new.self ++ c.args.side.now.name.now =
    c.in_ok-push_str-4.ensures.bytes ∙ ap (λ (t : List ℕ). string_bytes c.push_str-3.new.self ++ t) c.name.ensures in
    eight _ _ _ _ _ _ _ _ _ _ _ _ _ _ _ _ _ c.in_ok-push_address.ensures c.in_ok-push_str.ensures.bytes c.in_ok-push_address-2.ensures
    c.in_ok-push_str-2.ensures.bytes count c.in_ok-push_str-3.ensures.bytes named c.in_ok-push_str-5.ensures.bytes
