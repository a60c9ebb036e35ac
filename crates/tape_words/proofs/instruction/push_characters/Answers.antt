use Rattle.std.proofs.Common.{◌≡◌, ◌∙◌, ◌++◌, ℕ, List, [], ◌∷◌, append_assoc, append-nil, ap, sym, take, get_or}
use Rattle.std.proofs.lemmas.List.{take_more}
use Rattle.std.specs.Prelude.{encode_utf8, encode_utf8_all, string_bytes}
use Rattle.tape_words.proofs.instruction.push_characters.Goals as goal

encoded-push : (cs : List ℕ) (c : ℕ) → encode_utf8_all (cs ++ c ∷ []) ≡ encode_utf8_all cs ++ encode_utf8 c
encoded-push [] c = append-nil (encode_utf8 c)
encoded-push (d ∷ cs) c = ap (λ t. encode_utf8 d ++ t) (encoded-push cs c) ∙ sym (append_assoc (encode_utf8 d) (encode_utf8_all cs) (encode_utf8 c))

pub loop-byte-preserved : goal.loop-byte-preserved
loop-byte-preserved c =
    let i = c.loop-byte.byte-index in
    let more = ap encode_utf8_all (take_more c.args.text.now i 0 c.loop-byte-test.true) ∙ encoded-push (take i c.args.text.now) (get_or c.args.text.now i 0) in
    c.in_ok-push.ensures.bytes ∙ ap (λ t. t ++ encode_utf8 (get_or c.args.text.now i 0)) c.loop-byte.invariant
    ∙ append_assoc (string_bytes c.args.words.now) (encode_utf8_all (take i c.args.text.now)) (encode_utf8 (get_or c.args.text.now i 0))
    ∙ ap (λ t. string_bytes c.args.words.now ++ t) (sym more)
