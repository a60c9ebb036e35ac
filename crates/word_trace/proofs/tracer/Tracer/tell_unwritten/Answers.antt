use Rattle.std.proofs.Common.{◌≡◌, ◌∙◌, ◌<◌, ◌≤◌, ◌++◌, ◌∷◌, [], append-nil, drop, get_or, length, ap, refl, subst, sym}
use Rattle.std.proofs.Math.ListN.{drop_of_length-le}
use Rattle.word_trace.specs.Gathered.{findings, told, with_all_written, with_told}
use Rattle.word_trace.proofs.Noting.{findings_both, marked_on, same_sites}
use Rattle.word_trace.proofs.Telling.{told_none, told_on, written_all, written_none}
use Rattle.word_trace.proofs.tracer.Tracer.tell_unwritten.Goals as goal

pub loop-address-init : goal.loop-address-init
loop-address-init c = (
  [],
  record {
    written = sym (written_none c.args.self.now.written);
    rest = refl;
    text = sym (append-nil c.args.self.now.sheet.text.items);
    same = refl;
  },
)

pub loop-address-preserved : goal.loop-address-preserved
loop-address-preserved c =
    let l = c.loop-address in
    let i = l.address-index in
    let inv = l.invariant in
    let xs = c.args.addresses.now.items in
    let state = c.args.session.now.current in
    let m = state.bus.map in
    let w = l.self.written in
    let v = c.tell_read.new.self in
    let value = c.as_slice-address-items.ensures.value in
    let within = subst (λ ys. i < length ys) value c.loop-address-test.true in
    let ok = c.in_ok-tell_read.ensures in
    let here = ok.written ∙ ap (λ ys. with_told m w (get_or ys i 0 ∷ [])) value in
    let one = told m w (get_or xs i 0 ∷ []) in
    let number = c.args.self.now.all.visits in
    let found = subst (λ s. v.sheet.text.items ≡ l.self.sheet.text.items ++ findings state s c.args.moment.now number c.args.part one)
    (same_sites c.args.self.now l.self _ inv.1.same)
    (subst (λ ys. v.sheet.text.items ≡ l.self.sheet.text.items
    ++ findings state l.self.sites c.args.moment.now number c.args.part (told m w (get_or ys i 0 ∷ []))) value ok.text) in (
      inv.0 ++ one,
      record {
        written = here ∙ ap (λ u. with_all_written u one) inv.1.written ∙ written_all c.args.self.now.written inv.0 one;
        rest = told_on m w v.written inv.0 xs i within here ∙ inv.1.rest;
        text = findings_both state c.args.self.now.sites c.args.moment.now number c.args.part inv.0 one _ l.self.sheet.text.items _ inv.1.text found;
        same = marked_on c.args.self.now l.self v inv.1.same c.tell_read.ensures.rest;
      },
    )

pub returns-clause-written : goal.returns-clause-written
returns-clause-written c =
    let l = c.loop-address in
    let i = l.address-index in
    let inv = l.invariant in
    let xs = c.args.addresses.now.items in
    let m = c.args.session.now.current.bus.map in
    let past = subst (λ ys. length ys ≤ i) c.as_slice-address-items.ensures.value c.loop-address-test.false in
    let all = sym (append-nil inv.0) ∙ ap (λ ys. inv.0 ++ ys) (sym (told_none m l.self.written (drop i xs) (drop_of_length-le xs past))) ∙ inv.1.rest in
    inv.1.written ∙ ap (with_all_written c.args.self.now.written) all

pub returns-clause-text : goal.returns-clause-text
returns-clause-text c =
    let l = c.loop-address in
    let i = l.address-index in
    let inv = l.invariant in
    let xs = c.args.addresses.now.items in
    let state = c.args.session.now.current in
    let past = subst (λ ys. length ys ≤ i) c.as_slice-address-items.ensures.value c.loop-address-test.false in
    let all = sym (append-nil inv.0) ∙ ap (λ ys. inv.0 ++ ys) (sym (told_none state.bus.map l.self.written (drop i xs) (drop_of_length-le xs past)))
    ∙ inv.1.rest in
    subst (λ ys. l.self.sheet.text.items ≡ c.args.self.now.sheet.text.items
    ++ findings state c.args.self.now.sites c.args.moment.now c.args.self.now.all.visits c.args.part ys) all inv.1.text

pub returns-in_err-tell_read-clause-rest : goal.returns-in_err-tell_read-clause-rest
returns-in_err-tell_read-clause-rest c = marked_on c.args.self.now c.loop-address.self c.tell_read.new.self c.loop-address.invariant.1.same
    c.tell_read.ensures.rest
