use Rattle.std.proofs.Common.{◌∙◌, ap, arith, List}
use Rattle.body_cases.proofs.Names.{line-hello, line-request, line-bad_method, line-more, line-done, line-ident, line-reconnect, line-number, line-reset, line-stamp}
use Rattle.records.specs.Records.{print}
use Rattle.text.specs.Line.{Piece}
use Rattle.body_cases.proofs.reading.print_whole.Goals as goal

pub returns-in-Hello : goal.returns-in-Hello
returns-in-Hello c = c.print_hello.ensures ∙ ap (λ (l : List Piece). print l c.args.page.now) (line-hello c.args.tag c.args.s.now c.args.body (omega arith) c.requires _ _ c.in-Hello.is)

pub returns-in-AuthRequest : goal.returns-in-AuthRequest
returns-in-AuthRequest c = c.print_request.ensures ∙ ap (λ (l : List Piece). print l c.args.page.now) (line-request c.args.tag c.args.s.now c.args.body (omega arith) c.requires _ _ _ c.in-AuthRequest.is)

pub returns-in-BadMethod : goal.returns-in-BadMethod
returns-in-BadMethod c = c.print_bad_method.ensures ∙ ap (λ (l : List Piece). print l c.args.page.now) (line-bad_method c.args.tag c.args.s.now c.args.body (omega arith) c.requires _ _ _ _ c.in-BadMethod.is)

pub returns-in-More : goal.returns-in-More
returns-in-More c = c.print_more.ensures ∙ ap (λ (l : List Piece). print l c.args.page.now) (line-more c.args.tag c.args.s.now c.args.body (omega arith) c.requires _ c.in-More.is)

pub returns-in-AuthDone : goal.returns-in-AuthDone
returns-in-AuthDone c = c.print_done.ensures ∙ ap (λ (l : List Piece). print l c.args.page.now) (line-done c.args.tag c.args.s.now c.args.body (omega arith) c.requires _ _ _ c.in-AuthDone.is)

pub returns-in-Ident : goal.returns-in-Ident
returns-in-Ident c = c.print_ident.ensures ∙ ap (λ (l : List Piece). print l c.args.page.now) (line-ident c.args.tag c.args.s.now c.args.body (omega arith) c.requires _ _ _ c.in-Ident.is)

pub returns-in-Reconnect : goal.returns-in-Reconnect
returns-in-Reconnect c = c.print_reconnect.ensures ∙ ap (λ (l : List Piece). print l c.args.page.now) (line-reconnect c.args.tag c.args.s.now c.args.body (omega arith) c.requires _ _ _ c.in-Reconnect.is)

pub returns-in-Number : goal.returns-in-Number
returns-in-Number c = c.print_number.ensures ∙ ap (λ (l : List Piece). print l c.args.page.now) (line-number c.args.tag c.args.s.now c.args.body (omega arith) c.requires _ c.in-Number.is)

pub returns-in-Reset : goal.returns-in-Reset
returns-in-Reset c = c.print_reset.ensures ∙ ap (λ (l : List Piece). print l c.args.page.now) (line-reset c.args.tag c.args.s.now c.args.body (omega arith) c.requires _ c.in-Reset.is)

pub returns-in-Stamp : goal.returns-in-Stamp
returns-in-Stamp c = c.print_stamp.ensures ∙ ap (λ (l : List Piece). print l c.args.page.now) (line-stamp c.args.tag c.args.s.now c.args.body (omega arith) c.requires _ c.in-Stamp.is)
