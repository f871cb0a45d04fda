use Rattle.std.proofs.Common.{◌≡◌, ◌++◌, map}
use Rattle.inbox.specs.Drafts.{draft_of}
use Rattle.inbox.proofs.draft.inner_drafts.Given as goal

-- what was read, and what is left, are all
abbrev pub invariant-loop-part : goal.invariant-loop-part
invariant-loop-part l = l.drafts.items ++ map draft_of l.part-iterator ≡ map draft_of l.fn.parts
