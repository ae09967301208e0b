use Rattle.std.proofs.Common.{◌≡◌, ℕ, List, length, refl, ◌∙◌, rules}
use Rattle.listing.specs.Listings.{story_of}
use Rattle.listing.proofs.Promising.{file_promised}
use Rattle.listing.proofs.Telling.{begin, finished, within}
use Rattle.listing.proofs.Unplanned.{unplannable}
use Rattle.listing.proofs.listing.list.Goals as goal

by_rest : {x y z : List ℕ} → y ≡ z → x ≡ y → x ≡ z
by_rest rest first = first ∙ rest

pub returns : goal.returns
returns c =
    let file = c.args.file.now in
    let out = c.args.out.now in
    let sofar = c.tell_file.ensures.told (story_of file) out (begin refl refl) in
    let listed = finished _ sofar in
    record {
      listed = record { size = listed.size; stop = c.err-stop.ensures.value ∙ listed.stop; text = by_rest listed.text (search rules) };
      within = within sofar;
      promise = file_promised file;
      unplanned = unplannable file (length out) c.err-stop.result (c.err-stop.ensures.value ∙ listed.stop);
    }
