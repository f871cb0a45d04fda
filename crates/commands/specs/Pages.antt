-- The pages of help.
use Rattle.std.specs.Prelude.{ℕ, List, codes}
use Rattle.commands.specs.declared.page.Page.{Page}
use Rattle.commands.specs.declared.page.Page.TheVariants.{Program, Sim, Load, Serve, Call, Pair, Check, Relay}

-- the text of a page
unfoldable pub page_text : Page → List ℕ
page_text Program = codes "mtp: MTProto 2.0 sessions for cloud chats, both ends\n\nmtp sim [--wire]       plays a schedule and reports what became of each call\nmtp load N             plays the schedule of N calls and writes a summary\nmtp serve OPTIONS      serves connections\nmtp call OPTIONS       runs a script of calls as one batch\nmtp pair OPTIONS       runs one over a server that stops and a new one\nmtp check              tells whether calls of a trace execute at most once\nmtp relay OPTIONS      passes a capture on as a proxy with a secret does\nmtp COMMAND --help     tells what the options of a command mean\nmtp --help             writes this page\nmtp --version          writes the version\n"
page_text Sim = codes "mtp sim [--wire]\n\nReads a schedule from standard input, plays it in one world of servers and\nclients, and writes the report of that world.\n\n--wire    adds a line on all packets: how many, their bytes, and the SHA-256\n          of all of them\n"
page_text Load = codes "mtp load N\n\nPlays the schedule of N calls in one world and writes one line that sums it up.\n\nN    how many calls: 1 to 10000\n"
page_text Serve = codes "mtp serve --keys F --port P --conns N [--stop-after K] [--journal F]\n\nWrites `listening P`, serves N connections one after the other, and writes\n`served N`; or `stopped`, where it was told to stop and did.\n\n--keys F          the file of the keys\n--port P          the port to listen on: 1 to 65535\n--conns N         how many connections to serve: 1 to 1000\n--stop-after K    stops after K packets: 1 to 1000000000\n--journal F       keeps the sessions in the file F, and goes on with those\n                  that it has: after a crash, too\n"
page_text Call = codes "mtp call --keys F --key ID --port P --form FORM\n         [--obfuscate] [--retries R] [--perm ID]\n\nReads a script of calls from standard input, runs it as one batch against a\nserver on this machine, and writes a line for each call.\n\n--keys F       the file of the keys\n--key ID       the key to use: the 16 lower case hexadecimal digits of its\n               identifier's bytes\n--port P       the port to connect to: 1 to 65535\n--form FORM    how packets are framed: abridged, intermediate, padded or full\n--obfuscate    obfuscates the connection; not with full\n--retries R    how many lost connections to make up for: 0 to 1000, else 0\n--perm ID      the permanent key behind a temporary --key\n"
page_text Pair = codes "mtp pair --keys F --key ID --port P --stop-after K\n\nReads a script of calls from standard input and runs it as one batch against a\nserver that it starts on port P and that stops after K packets; where that\nleaves a call undecided it starts another one on port P + 1 and goes on there.\nWrites a line for each call.\n\n--keys F          the file of the keys\n--key ID          the key to use, a permanent one: the 16 lower case\n                  hexadecimal digits of its identifier's bytes\n--port P          the port of the first server: 1 to 65534\n--stop-after K    stops the first server after K packets: 1 to 1000000000\n"
page_text Check = codes "mtp check\n\nReads a trace from standard input, a fact a line, and writes `yes` where each\ncall executed at most once and what is told of it is so. Else it writes\n`broken K at line N`: the first of the six sentences below that doesn't hold,\nand the first line that shows it.\n\nbody C N HEX       the body of call N of client C; calls count from 1\nname C N S M       the call's next name: session S and message number M\nstate C N STATE    what the client tells of the call: queued, sent, held,\n                   done HEX, refused CODE or unknown CAUSE, where CAUSE is\n                   session, renewed, ended or forgotten\nentry START S M HEX HEX ran\n                   a request and its reply, in this start of the server; answer\n                   in place of ran where the service didn't run\nmade S             the server made a session of this number\nleft S             the client renewed in it\nclosed S           the client ended in it\ngone S M           the server had forgotten the number, or dropped its reply\n\n1  over all names of a call there is at most one entry\n2  each entry has the name of a call, and the call's body as its request\n3  a call that is done has exactly one entry, with the reply that it was told\n4  a replaced name has no entry, nor has a call that is queued, held or refused\n5  where a call is unknown, the cause that is told holds of its last name\n6  what ran in one start has the replies of the register service, in order\n"
page_text Relay = codes "mtp relay --secret HEX --form FORM\n\nReads a capture from standard input and passes it on as a proxy with a secret\ndoes, a line for each line: the client's side is obfuscated, the server's is in\nplain framing.\n\n--secret HEX    the secret of the proxy: 32 hexadecimal digits\n--form FORM     how the server's side is framed: abridged, intermediate or\n                padded\n\nup HEX      bytes that the client sent, `-` for none\ndown HEX    bytes that the server sent, `-` for none\n"

-- the text for `--version`
unfoldable pub version_text : List ℕ
version_text = codes "mtp 0.1.0\n"
