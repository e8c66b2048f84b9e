-- `decode` meets its contract: field by field.
use Rattle.c_record.specs.Records.{attempt_of}
use Rattle.c_record.proofs.Records.{marks-told}
use Rattle.c_record.proofs.coding.decode.Goals as goal

pub end_of-end-requires : goal.end_of-end-requires
end_of-end-requires c = (marks-told c.args.held c.requires).mark

pub returns : goal.returns
unfolding attempt_of
returns c = rw c.end_of-end.ensures
