-- What is printed of a block, and at the end.
use Rattle.std.specs.Prelude.{ℕ, ◌==◌, ◌&&◌, Bool, not, if◌then◌else◌, List, [], ◌++◌, reverse, codes, Option, Some, None}
use Rattle.std.specs.Fmt.{decimal}
use Rattle.hex.specs.Hex.{encode_lower}
use Rattle.cb_audit.specs.declared.auditing.Split.{Split}
use Rattle.cb_audit.specs.declared.auditing.Split.TheVariants as splits
use Rattle.cb_base.specs.Fault.{fault_text as fault_name}
use Rattle.cb_base.specs.declared.fault.Fault.{Fault}
use Rattle.cb_net_node.specs.declared.results.BlockResult.{BlockResult}
use Rattle.cb_net_node.specs.declared.results.Ending.{Ending}
use Rattle.cb_net.specs.Times.{cell_text, time_text}
use Rattle.cb_net.specs.TrafficText.{columns_text, heads_text, traffic_line}

-- The honest nodes have one tip, each audit says yes, and all that was due happened.
abbrev pub is_well : Ending → Bool
is_well ending = ending.agreeing == ending.honest && (ending.no == 0 && not ending.is_cut)

-- ---- a block

-- who mined it, and when it came to half, to nine of ten and to all
abbrev pub times_text : BlockResult → List ℕ
times_text block =
    codes "block " ++ (decimal block.number
    ++ (codes " miner " ++ (decimal block.miner
    ++ (codes " half " ++ (time_text block.half
    ++ (codes " most " ++ (time_text block.most
    ++ (codes " all " ++ time_text block.all))))))))

-- how it came, and the beginning of the next line
abbrev pub ways_text : BlockResult → List ℕ
ways_text block =
    codes " once " ++ (decimal block.once
    ++ (codes " asked " ++ (decimal block.asked
    ++ (codes " whole " ++ (decimal block.whole
    ++ (codes "\nbytes " ++ decimal block.number))))))

-- both lines
abbrev pub block_text : BlockResult → List ℕ
block_text block = times_text block ++ ways_text block ++ traffic_line block.traffic.rows

-- the first row
abbrev pub head_row : List ℕ
head_row = codes "block,miner,transactions,half,most,all,reached,once,asked,whole" ++ heads_text

-- the row of a block
abbrev pub time_cells : BlockResult → List ℕ
time_cells block =
    decimal block.number ++ (codes "," ++ (decimal block.miner
    ++ (codes "," ++ (decimal block.transactions
    ++ (codes "," ++ (cell_text block.half
    ++ (codes "," ++ (cell_text block.most ++ (codes "," ++ cell_text block.all)))))))))

abbrev pub way_cells : BlockResult → List ℕ
way_cells block =
    codes "," ++ (decimal block.reached
    ++ (codes "," ++ (decimal block.once
    ++ (codes "," ++ (decimal block.asked ++ (codes "," ++ decimal block.whole))))))

abbrev pub row_text : BlockResult → List ℕ
row_text block = time_cells block ++ way_cells block ++ columns_text block.traffic.rows

-- ---- the end

abbrev pub tip_text : Ending → List ℕ
tip_text ending =
    codes "tip " ++ (decimal ending.height
    ++ (codes " " ++ (encode_lower (reverse ending.tip.0)
    ++ (codes " nodes " ++ (decimal ending.agreeing
    ++ (codes " of " ++ (decimal ending.honest ++ codes "\n")))))))

-- the connections that honest nodes closed, by what the nodes at their other ends are
abbrev pub closed_text : Ending → List ℕ
closed_text ending =
    codes "closed dishonest " ++ (decimal ending.closed_on_liars
    ++ (codes " honest " ++ (decimal ending.closed_on_honest ++ codes "\n")))

-- how many audits say yes, and how many don't
abbrev pub audits_text : Bool → Ending → List ℕ
audits_text audit ending =
    if audit
    then codes "audit yes " ++ (decimal ending.yes
    ++ (codes " no " ++ (decimal ending.no ++ codes "\n")))
    else []

-- why the audit of a node doesn't say yes
abbrev pub split_text : ℕ → Split → List ℕ
split_text node splits.Memory = codes "audit node " ++ (decimal node ++ codes " unknown\n")
split_text node (splits.Count connection) =
    codes "audit node " ++ (decimal node
    ++ (codes " count " ++ (decimal connection.peer
    ++ (codes " " ++ (decimal connection.generation ++ codes "\n")))))
split_text node (splits.Differs connection place) =
    codes "audit node " ++ (decimal node
    ++ (codes " differs " ++ (decimal connection.peer
    ++ (codes " " ++ (decimal connection.generation
    ++ (codes " " ++ (decimal place ++ codes "\n")))))))

abbrev pub refused_text : Option (ℕ × Split) → List ℕ
refused_text None = []
refused_text (Some (node, split)) = split_text node split

-- not all that was due happened
abbrev pub cut_text : Bool → List ℕ
cut_text is_cut = if is_cut then codes "too many events\n" else []

abbrev pub seed_text : ℕ → List ℕ
seed_text seed = codes "failed seed " ++ (decimal seed ++ codes "\n")

-- the seed, if not all is well
abbrev pub trouble_text : ℕ → Ending → List ℕ
trouble_text seed ending = if is_well ending then [] else seed_text seed

-- the last lines
abbrev pub ending_text : Bool → ℕ → Ending → List ℕ
ending_text audit seed ending =
    codes "bytes all" ++ traffic_line ending.traffic.rows ++ tip_text ending
    ++ closed_text ending ++ audits_text audit ending ++ refused_text ending.refused
    ++ cut_text ending.is_cut ++ trouble_text seed ending

-- why a network couldn't be played on, and the seed
abbrev pub fault_text : Fault → ℕ → List ℕ
fault_text fault seed =
    codes "fault " ++ (fault_name fault ++ (codes "\nfailed seed " ++ (decimal seed ++ codes "\n")))
