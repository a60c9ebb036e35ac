use Rattle.std.proofs.Common.{◌≡◌, ℕ, false, not, sum, ◌%◌, ◌==◌, true, ap, sym, ◌∙◌}
use Rattle.word_mend.specs.RecordMending.{checksums_if, mark_len, total_of}
use Rattle.word_mend.specs.RecordParts.{extra_of, is_whole}
use Rattle.word_mend.proofs.RecordSums.{decoded, no_pairs, no_record, whole_record}
use Rattle.word_mend.proofs.checksums.wrong_in.Goals as goal

pub returns-then-not-are_pairs : goal.returns-then-not-are_pairs
returns-then-not-are_pairs c =
    let form = c.args.form in
    no_pairs (mark_len form) (extra_of form) (total_of form) c.args.digits.now (sym c.are_pairs.ensures ∙ c.if-not-are_pairs.true)

pub returns-then-not-is_whole : goal.returns-then-not-is_whole
returns-then-not-is_whole c =
    let form = c.args.form in
    let bytes = c.deref.result.now in
    let pairs = sym c.are_pairs.ensures ∙ c.if-not-are_pairs.false in
    let are = c.deref.ensures.value ∙ decoded c.args.digits.now c.in-Ok.bytes.items pairs c.in-Ok.ensures.ok in
    let part : is_whole (extra_of form) bytes ≡ false = sym (ap (λ (n : ℕ). is_whole n bytes) c.extra_of.ensures.value)
    ∙ (sym c.is_whole.ensures.value ∙ c.if-not-is_whole.true) in
    no_record (mark_len form) (extra_of form) (total_of form) c.args.digits.now bytes pairs are part

pub returns : goal.returns
returns c =
    let form = c.args.form in
    let bytes = c.deref-2.result.now in
    let pairs = sym c.are_pairs.ensures ∙ c.if-not-are_pairs.false in
    let are = c.deref-2.ensures.value ∙ decoded c.args.digits.now c.in-Ok.bytes.items pairs c.in-Ok.ensures.ok in
    let same = c.deref-2.ensures.value ∙ sym c.deref.ensures.value in
    let whole : is_whole (extra_of form) bytes ≡ true =
    ap (is_whole (extra_of form)) same ∙ (sym (ap (λ (n : ℕ). is_whole n c.deref.result.now) c.extra_of.ensures.value)
    ∙ (sym c.is_whole.ensures.value ∙ c.if-not-is_whole.false)) in
    c.wrong_of.ensures ∙ (ap (λ (total : ℕ). checksums_if (not (sum bytes % 256 == total)) total bytes) c.total_of.ensures.value
    ∙ whole_record (mark_len form) (extra_of form) (total_of form) c.args.digits.now bytes pairs are whole)
