use Rattle.listing.proofs.Telling.{told_some}
use Rattle.listing.proofs.page.Page.tell.Goals as goal

pub returns-in_ok-self-clause-told : goal.returns-in_ok-self-clause-told
returns-in_ok-self-clause-told c =
    told_some c.args.line c.in-Some.line c.args.self.now _ c.in-Some.is c.in_ok-self.ensures.place c.in_ok-self.ensures.text
