use mathlib.Core.Path.{◌≡◌, refl, ◌∙◌, sym}
use lib.ListN.{get_or, set}
use Rattle.receiver.specs.Step.{state_at}
use Rattle.abi_receiver.specs.Words.{abi_state}
use Rattle.abi_receiver.proofs.Back.{counted, abi_of_lem}
use Rattle.abi_receiver.specs.Words as words
use Rattle.abi_receiver.proofs.Answers.{words-refused, answered}
use Rattle.abi_receiver.proofs.abi_receive.Goals as goal

pub returns-then-not-fits : goal.returns-then-not-fits
returns-then-not-fits c =
    let g = c.args in
    let f = c.fits in
    record {
      kind = rw c.contradicts.ensures;
      answered = words-refused g.numbers.now g.block.now g.store.now g.piece.now _ (sym f.ensures ∙ c.if-not-fits.true) c.contradicts.ensures;
    }

pub returns-in-Partial : goal.returns-in-Partial
unfolding words.state_of
returns-in-Partial c =
    let g = c.args in
    let ws = g.numbers.now in
    let b = g.block.now in
    let f = c.fits in
    let e = sym f.ensures ∙ c.if-not-fits.false in
    let k = c.stage_of.ensures in
    let v = c.known_of-known.ensures.0 in
    let d : state_at c.stage_of.result (get_or ws 18 0) b c.known_of-known.result ≡ words.state_of (abi_state ws b) = rw (k, v) in
    let to = c.in-Partial.to in
    let b' = c.receive_in.new.block in
    let a = c.in-Partial.ensures in
    let st = state_at c.stage_of.result to b' c.known_of-known.result in
    let w : set ws 18 to ≡ words.state_numbers st = counted ws b' to c.known_of-known.ensures.1 e ∙ rw (k, v) in
    record {
      kind = rw c.report_words.ensures.words;
      answered = answered (abi_state ws b) g.store.now g.piece.now (set ws 18 to) _ _ _ _ e d a (abi_of_lem st (set ws 18 to) (c.typed_known.ensures st.position.stage to b') w) c.report_words.ensures;
    }

pub returns-in-Moved : goal.returns-in-Moved
unfolding words.state_of
returns-in-Moved c =
    let g = c.args in
    let ws = g.numbers.now in
    let b = g.block.now in
    let f = c.fits in
    let e = sym f.ensures ∙ c.if-not-fits.false in
    let d : state_at c.stage_of.result (get_or ws 18 0) b c.known_of-known.result ≡ words.state_of (abi_state ws b) = rw (c.stage_of.ensures, c.known_of-known.ensures.0) in
    let a = c.in-Moved.ensures in
    record {
      kind = refl;
      answered = answered (abi_state ws b) g.store.now g.piece.now _ _ _ _ _ e d a (c.numbers_of.ensures c.receive_in.new.block) c.report_words-said.ensures;
    }
