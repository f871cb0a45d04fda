use Rattle.std.proofs.Common.{◌≡◌, map, take, string_bytes}
use Rattle.std.specs.Process.{command_args, command_program}
use Rattle.mt_edge.proofs.child_kids.ChildKids.command.Given as goal

-- the words that were passed are the command's
abbrev pub invariant-loop-word : goal.invariant-loop-word
invariant-loop-word g l = record {
  program : command_program l.command ≡ string_bytes l.self.program;
  words : command_args l.command ≡ map string_bytes (take l.word-index l.words);
}
